-- What two blocks hold, by their messages.
use Rattle.std.proofs.Common.{◌≡◌, get_or, ℕ, ◌-◌, ◌^◌, ◌<◌, ◌≤◌, List, [], ◌∷◌, ◌++◌, length, refl, sym, ◌∙◌, ap, subst, arith, Option, Some, None, true, false}
use Rattle.std.specs.Prelude.{is_some, IfSome}
use Rattle.ssh_wire.specs.Forms.{magnitude, mpint, string}
use Rattle.ssh_wire.specs.Lines.{id_text}
use Rattle.ssh_kex.specs.Messages.{reply_message, sizes_text, value_message}
use Rattle.ssh_kex.specs.Setting.{IsShortGroup}
use Rattle.ssh_kex.specs.declared.config.Config.{Config}
use Rattle.ssh_kex.specs.declared.exchange.Exchange.{Exchange}
use Rattle.ssh_kex.specs.declared.exchange.GexChosen.{GexChosen}
use Rattle.ssh_kex.specs.declared.group.GexParams.{GexParams}
use Rattle.ssh_rules.specs.ExchangeMessages.{groups, requests}
use Rattle.ssh_record.specs.Exchanges.{BlocksHold}
use Rattle.ssh_blocks.specs.Blocks.{AreShort}
use Rattle.ssh_blocks.specs.Forms.{AreSizes}
use Rattle.ssh_blocks.proofs.Spelled.{numbers_within, reply_short, string_short}

-- ---- what is held, from what was read

short_at : (block : List (List ℕ)) (a b last : List ℕ) → block ≡ a ∷ b ∷ last ∷ [] → AreShort block → length b < 2 ^ 31
short_at block a b last e s = (subst AreShort e s).1.0

pub plain_held : (c s : Config) (client server : List (List ℕ)) (ck sk cv host sv signature client_end server_end value reply : List ℕ)
    → client ≡ ck ∷ value ∷ client_end ∷ [] → server ≡ sk ∷ reply ∷ server_end ∷ []
    → value ≡ 30 ∷ string cv → reply ≡ 31 ∷ (string host ++ (string sv ++ string signature)) → AreShort client → AreShort server
    → BlocksHold c s false client server (record { client_id = id_text c.id; server_id = id_text s.id; client_kex_init = ck; server_kex_init = sk; client_ephemeral = cv; server_ephemeral = sv; gex = None }) host
plain_held c s client server ck sk cv host sv signature client_end server_end value reply ce se ve re cs ss =
    let lengths = reply_short reply 31 host sv signature re in
    let small : length reply < 2 ^ 31 = short_at server sk reply server_end se ss in
    record {
      client_id = refl;
      server_id = refl;
      kind_is = refl;
      signature = signature;
      client_end = client_end;
      server_end = server_end;
      client_is = ce ∙ ap (λ m. ck ∷ m ∷ client_end ∷ []) ve;
      server_is = se ∙ ap (λ m. sk ∷ m ∷ server_end ∷ []) re;
      short = record {
        client_value = omega (arith, short_at client ck value client_end ce cs, string_short value 30 cv ve);
        host_blob = omega (arith, lengths.0, small);
        server_value = omega (arith, lengths.1, small);
        signed = omega (arith, lengths.2, small);
        group = tt;
      };
      group = tt;
    }

second_short : (block : List (List ℕ)) (a b d last : List ℕ) → block ≡ a ∷ b ∷ d ∷ last ∷ [] → AreShort block → length b < 2 ^ 31
second_short block a b d last e s = (subst AreShort e s).1.0

third_short : (block : List (List ℕ)) (a b d last : List ℕ) → block ≡ a ∷ b ∷ d ∷ last ∷ [] → AreShort block → length d < 2 ^ 31
third_short block a b d last e s = (subst AreShort e s).1.1.0

pub group_held : (c s : Config) (client server : List (List ℕ)) (ck sk cv host sv signature client_end server_end request value group reply prime generator : List ℕ) (sizes : GexParams)
    → client ≡ ck ∷ request ∷ value ∷ client_end ∷ [] → server ≡ sk ∷ group ∷ reply ∷ server_end ∷ []
    → value ≡ 32 ∷ string cv → reply ≡ 33 ∷ (string host ++ (string sv ++ string signature)) → request ≡ 34 ∷ sizes_text sizes → AreSizes sizes → group ≡ 31 ∷ (mpint prime ++ mpint generator)
    → magnitude prime ≡ prime → magnitude generator ≡ generator → AreShort client → AreShort server
    → BlocksHold c s true client server (record { client_id = id_text c.id; server_id = id_text s.id; client_kex_init = ck; server_kex_init = sk; client_ephemeral = cv; server_ephemeral = sv; gex = Some (record { params = sizes; group = record { prime = prime; generator = generator } }) }) host
group_held c s client server ck sk cv host sv signature client_end server_end request value group reply prime generator sizes ce se ve re qe small ge pm gm cs ss =
    let lengths = reply_short reply 33 host sv signature re in
    let numbers = numbers_within group 31 prime generator ge in
    let few : length reply < 2 ^ 31 = third_short server sk group reply server_end se ss in
    let some : length group < 2 ^ 31 = second_short server sk group reply server_end se ss in
    record {
      client_id = refl;
      server_id = refl;
      kind_is = refl;
      signature = signature;
      client_end = client_end;
      server_end = server_end;
      client_is = ce ∙ (ap (λ m. ck ∷ m ∷ value ∷ client_end ∷ []) qe ∙ ap (λ m. ck ∷ (34 ∷ sizes_text sizes) ∷ m ∷ client_end ∷ []) ve);
      server_is = se ∙ (ap (λ m. sk ∷ m ∷ reply ∷ server_end ∷ []) ge ∙ ap (λ m. sk ∷ (31 ∷ (mpint prime ++ mpint generator)) ∷ m ∷ server_end ∷ []) re);
      short = record {
        client_value = omega (arith, third_short client ck request value client_end ce cs, string_short value 32 cv ve);
        host_blob = omega (arith, lengths.0, few);
        server_value = omega (arith, lengths.1, few);
        signed = omega (arith, lengths.2, few);
        group = record {
          prime = omega (arith, numbers, ap length pm, some);
          generator = omega (arith, numbers, ap length gm, some);
          least = small.least;
          preferred = small.wanted;
          most = small.most;
        };
      };
      group = record { prime = pm; generator = gm };
    }

-- ---- what was to be read, from what is held

no_group : (g : Option GexChosen) → is_some g ≡ false → g ≡ None
no_group None e = refl
no_group (Some g) e = absurd (let p : true ≡ false = e in cc)

some_group : (g : Option GexChosen) → is_some g ≡ true → (x : GexChosen) × (g ≡ Some x)
some_group None e = absurd (let p : false ≡ true = e in cc)
some_group (Some g) e = (g, refl)

-- the messages of a plain exchange
pub record IsPlain (client server : List (List ℕ)) (e : Exchange) (host : List ℕ) : Type 0 where
  pub signature : List ℕ
  pub client_end : List ℕ
  pub server_end : List ℕ
  pub client_is : client ≡ e.client_kex_init ∷ (30 ∷ string e.client_ephemeral) ∷ client_end ∷ []
  pub server_is : server ≡ e.server_kex_init ∷ (31 ∷ (string host ++ (string e.server_ephemeral ++ string signature))) ∷ server_end ∷ []
  pub client_value : length e.client_ephemeral < 2 ^ 32
  pub host_blob : length host < 2 ^ 32
  pub server_value : length e.server_ephemeral < 2 ^ 32
  pub signed : length signature < 2 ^ 32

client_plain : (k v last : List ℕ) (g : Option GexChosen) → g ≡ None → (k ∷ (requests g ++ value_message (is_some g) v ∷ [])) ++ last ∷ [] ≡ k ∷ (30 ∷ string v) ∷ last ∷ []
client_plain k v last g e = ap (λ x. (k ∷ (requests x ++ value_message (is_some x) v ∷ [])) ++ last ∷ []) e

server_plain : (k h v s last : List ℕ) (g : Option GexChosen) → g ≡ None → (k ∷ (groups g ++ reply_message (is_some g) h v s ∷ [])) ++ last ∷ [] ≡ k ∷ (31 ∷ (string h ++ (string v ++ string s))) ∷ last ∷ []
server_plain k h v s last g e = ap (λ x. (k ∷ (groups x ++ reply_message (is_some x) h v s ∷ [])) ++ last ∷ []) e

pub is_plain : (c s : Config) (client server : List (List ℕ)) (e : Exchange) (host : List ℕ) → BlocksHold c s false client server e host → IsPlain client server e host
is_plain c s client server e host h =
    let none : e.gex ≡ None = no_group e.gex h.kind_is in
    record {
      signature = h.signature;
      client_end = h.client_end;
      server_end = h.server_end;
      client_is = h.client_is ∙ client_plain e.client_kex_init e.client_ephemeral h.client_end e.gex none;
      server_is = h.server_is ∙ server_plain e.server_kex_init host e.server_ephemeral h.signature h.server_end e.gex none;
      client_value = h.short.client_value;
      host_blob = h.short.host_blob;
      server_value = h.short.server_value;
      signed = h.short.signed;
    }

-- those of a group exchange
pub record IsGrouped (client server : List (List ℕ)) (e : Exchange) (host : List ℕ) : Type 0 where
  pub signature : List ℕ
  pub client_end : List ℕ
  pub server_end : List ℕ
  pub chosen : GexChosen
  pub client_is : client ≡ e.client_kex_init ∷ (34 ∷ sizes_text chosen.params) ∷ (32 ∷ string e.client_ephemeral) ∷ client_end ∷ []
  pub server_is : server ≡ e.server_kex_init ∷ (31 ∷ (mpint chosen.group.prime ++ mpint chosen.group.generator)) ∷ (33 ∷ (string host ++ (string e.server_ephemeral ++ string signature))) ∷ server_end ∷ []
  pub client_value : length e.client_ephemeral < 2 ^ 32
  pub host_blob : length host < 2 ^ 32
  pub server_value : length e.server_ephemeral < 2 ^ 32
  pub signed : length signature < 2 ^ 32
  pub prime : length chosen.group.prime < 2 ^ 32 - 1
  pub generator : length chosen.group.generator < 2 ^ 32 - 1
  pub sizes : AreSizes chosen.params

client_grouped : (k v last : List ℕ) (g : Option GexChosen) (x : GexChosen) → g ≡ Some x → (k ∷ (requests g ++ value_message (is_some g) v ∷ [])) ++ last ∷ [] ≡ k ∷ (34 ∷ sizes_text x.params) ∷ (32 ∷ string v) ∷ last ∷ []
client_grouped k v last g x e = ap (λ y. (k ∷ (requests y ++ value_message (is_some y) v ∷ [])) ++ last ∷ []) e

server_grouped : (k h v s last : List ℕ) (g : Option GexChosen) (x : GexChosen) → g ≡ Some x → (k ∷ (groups g ++ reply_message (is_some g) h v s ∷ [])) ++ last ∷ [] ≡ k ∷ (31 ∷ (mpint x.group.prime ++ mpint x.group.generator)) ∷ (33 ∷ (string h ++ (string v ++ string s))) ∷ last ∷ []
server_grouped k h v s last g x e = ap (λ y. (k ∷ (groups y ++ reply_message (is_some y) h v s ∷ [])) ++ last ∷ []) e

pub is_grouped : (c s : Config) (client server : List (List ℕ)) (e : Exchange) (host : List ℕ) → BlocksHold c s true client server e host → IsGrouped client server e host
is_grouped c s client server e host h =
    let g = some_group e.gex h.kind_is in
    let short : IsShortGroup g.0 = subst (λ (x : Option GexChosen). IfSome x IsShortGroup) g.1 h.short.group in
    record {
      signature = h.signature;
      client_end = h.client_end;
      server_end = h.server_end;
      chosen = g.0;
      client_is = h.client_is ∙ client_grouped e.client_kex_init e.client_ephemeral h.client_end e.gex g.0 g.1;
      server_is = h.server_is ∙ server_grouped e.server_kex_init host e.server_ephemeral h.signature h.server_end e.gex g.0 g.1;
      client_value = h.short.client_value;
      host_blob = h.short.host_blob;
      server_value = h.short.server_value;
      signed = h.short.signed;
      prime = omega (arith, short.prime);
      generator = omega (arith, short.generator);
      sizes = record { least = short.least; wanted = short.preferred; most = short.most };
    }

-- ---- of one list of messages

pub same_second : (a b c x y z : List ℕ) (block : List (List ℕ)) → block ≡ a ∷ b ∷ c ∷ [] → block ≡ x ∷ y ∷ z ∷ [] → b ≡ y
same_second a b c x y z block e f = let p : a ∷ b ∷ c ∷ [] ≡ x ∷ y ∷ z ∷ [] = sym e ∙ f in cc

pub same_two : (a b c d x y z w : List ℕ) (block : List (List ℕ)) → block ≡ a ∷ b ∷ c ∷ d ∷ [] → block ≡ x ∷ y ∷ z ∷ w ∷ [] → (b ≡ y) × (c ≡ z)
same_two a b c d x y z w block e f = let p : a ∷ b ∷ c ∷ d ∷ [] ≡ x ∷ y ∷ z ∷ w ∷ [] = sym e ∙ f in (cc, cc)

-- ---- blocks of so many messages

pub three_are : (xs : List (List ℕ)) (a b x y : List ℕ) → 3 ≤ length xs → length xs < 4 → x ≡ get_or xs 0 x → y ≡ get_or xs 1 y → a ≡ x → b ≡ y → (last : List ℕ) × (xs ≡ a ∷ b ∷ last ∷ [])
three_are [] a b x y l m e f g h = absurd (omega (arith, l))
three_are (p ∷ []) a b x y l m e f g h = absurd (omega (arith, l))
three_are (p ∷ q ∷ []) a b x y l m e f g h = absurd (omega (arith, l))
three_are (p ∷ q ∷ r ∷ []) a b x y l m e f g h = (r, ap (λ t. t ∷ q ∷ r ∷ []) (sym (g ∙ e)) ∙ ap (λ t. a ∷ t ∷ r ∷ []) (sym (h ∙ f)))
three_are (p ∷ q ∷ r ∷ s ∷ xs) a b x y l m e f g h = absurd (omega (arith, m))

pub four_are : (xs : List (List ℕ)) (a b c x y z : List ℕ) → 4 ≤ length xs → length xs < 5 → x ≡ get_or xs 0 x → y ≡ get_or xs 1 y → z ≡ get_or xs 2 z → a ≡ x → b ≡ y → c ≡ z → (last : List ℕ) × (xs ≡ a ∷ b ∷ c ∷ last ∷ [])
four_are [] a b c x y z l m e f g h i j = absurd (omega (arith, l))
four_are (p ∷ []) a b c x y z l m e f g h i j = absurd (omega (arith, l))
four_are (p ∷ q ∷ []) a b c x y z l m e f g h i j = absurd (omega (arith, l))
four_are (p ∷ q ∷ r ∷ []) a b c x y z l m e f g h i j = absurd (omega (arith, l))
four_are (p ∷ q ∷ r ∷ s ∷ []) a b c x y z l m e f g h i j =
    (s, ap (λ t. t ∷ q ∷ r ∷ s ∷ []) (sym (h ∙ e)) ∙ (ap (λ t. a ∷ t ∷ r ∷ s ∷ []) (sym (i ∙ f)) ∙ ap (λ t. a ∷ b ∷ t ∷ s ∷ []) (sym (j ∙ g))))
four_are (p ∷ q ∷ r ∷ s ∷ t ∷ xs) a b c x y z l m e f g h i j = absurd (omega (arith, m))
