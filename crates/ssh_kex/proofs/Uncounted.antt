-- Lawful parts that counted no refusal leave want of memory alone.
use Rattle.std.proofs.Common.{◌≡◌, ℕ, ◌+◌, ◌<◌, ◌≤◌, Bool, true, false, List, ◌++◌, length, length-append, refl, arith, Option, Some}
use Rattle.ssh_negotiate.specs.declared.kex.Name as kexes
use Rattle.ssh_packet.specs.Sealing.{longest_payload}
use Rattle.ssh_packet.specs.Writing.{Writer}
use Rattle.ssh_packet.specs.declared.reader.Incoming.{Incoming}
use Rattle.ssh_wire.proofs.Lemmas.{magnitude_length, unsigned_length}
use Rattle.ssh_wire.specs.Forms.{magnitude, mpint, string, u32be, unsigned}
use Rattle.ssh_wire.specs.declared.error.Error.{Error}
use Rattle.ssh_wire.specs.declared.error.Error.TheVariants as errors
use Rattle.ssh_kex.specs.Laws.{CarriesSmall, PartsAnswer}
use Rattle.ssh_kex.specs.Messages.{group_message, is_gex, reply_message}
use Rattle.ssh_kex.specs.Parts.{IsSmall}
use Rattle.ssh_kex.specs.Refusals.{Denies, IsTooLong, PartDenies, SignatureDenied, SigningDenied}
use Rattle.ssh_kex.specs.declared.config.Config.{Config}
use Rattle.ssh_kex.specs.Setting.{Says, Setting}
use Rattle.ssh_kex.specs.Stages.{Stage, Created, AwaitsGroup, AwaitsReply, AwaitsRequest, AwaitsValue, AwaitsNewkeys, Machine}
use Rattle.ssh_kex.specs.Stepping.{Progresses, RefusesStep}
use Rattle.ssh_kex.specs.declared.exchange.ServerHost.{ServerHost}
use Rattle.ssh_kex.specs.declared.group.DhGroup.{DhGroup}
use Rattle.ssh_kex.specs.declared.group.GexParams.{GexParams}
use Rattle.ssh_kex.specs.declared.progress.KexProgress.{KexProgress}
use Rattle.ssh_kex.proofs.Excluding.{rows_exclude}

-- what the parts answer is small
pub record AnswersSmall (says : Says) : Type 0 where
  pub value : (v : List ℕ) → says.value_small v → IsSmall v
  pub signature : (v : List ℕ) → says.signature_small v → IsSmall v

-- no part refuses
pub record DeniesNone (denies : Denies) : Type 0 where
  pub start : (name : kexes.Name) (group : Option DhGroup) → denies.start name group → ⊥
  pub value : (name : kexes.Name) (group : Option DhGroup) (v : List ℕ) → denies.value name group v → ⊥
  pub reply : (name : kexes.Name) (group : Option DhGroup) (l v : List ℕ) → denies.reply name group l v → ⊥
  pub lookup : (sizes : GexParams) → denies.lookup sizes → ⊥
  pub sign : (config : Config) → denies.sign config → ⊥
  pub verify : (host : ServerHost) (hash signature : List ℕ) → denies.verify host hash signature → ⊥

-- ---- lengths

mpint_length : (v : List ℕ) → length (mpint v) ≤ length v + 5
mpint_length v =
    let a = length-append (u32be (length (unsigned (magnitude v)))) (unsigned (magnitude v)) in
    let b = unsigned_length (magnitude v) in
    let c = magnitude_length v in
    omega (arith, a, b, c)

group_length : (g : DhGroup) → length (group_message g) ≤ length g.prime + length g.generator + 11
group_length g =
    let a = length-append (mpint g.prime) (mpint g.generator) in
    let b = mpint_length g.prime in
    let c = mpint_length g.generator in
    omega (arith, a, b, c)

string_length : (v : List ℕ) → length (string v) ≡ length v + 4
string_length v = (let a = length-append (u32be (length v)) v in omega (arith, a))

body_length : (h v s : List ℕ) → length (string h ++ (string v ++ string s)) ≡ length h + (length v + length s) + 12
body_length h v s =
    let a = length-append (string h) (string v ++ string s) in
    let b = length-append (string v) (string s) in
    let x = string_length h in
    let y = string_length v in
    let z = string_length s in
    omega (arith, a, b, x, y, z)

reply_length : (kind : Bool) (h v s : List ℕ) → length (reply_message kind h v s) ≡ length h + (length v + length s) + 13
reply_length true h v s = (let a = body_length h v s in omega (arith, a))
reply_length false h v s = (let a = body_length h v s in omega (arith, a))

-- ---- each cause

part_answers : (says : Says) (denies : Denies) (s : Setting) (stage : Stage) (seqn : ℕ) (payload : List ℕ) → DeniesNone denies → PartDenies says denies s stage seqn payload → ⊥
part_answers says denies s (Created own) seqn payload d h = d.start _ _ h.denied
part_answers says denies s (AwaitsGroup o) seqn payload d h = d.start _ _ h.denied
part_answers says denies s (AwaitsReply o gex local public) seqn payload d h = d.reply _ _ _ _ h.denied
part_answers says denies s (AwaitsRequest o) seqn payload d h = d.lookup _ h.denied
part_answers says denies s (AwaitsValue o gex) seqn payload d h = d.value _ _ _ h.denied
part_answers says denies s (AwaitsNewkeys exchange made host) seqn payload d h = h

is_verified : (says : Says) (denies : Denies) (s : Setting) (stage : Stage) (payload : List ℕ) → DeniesNone denies → SignatureDenied says denies s stage payload → ⊥
is_verified says denies s (Created own) payload d h = h
is_verified says denies s (AwaitsGroup o) payload d h = h
is_verified says denies s (AwaitsReply o gex local public) payload d h = d.verify _ _ _ h.denied
is_verified says denies s (AwaitsRequest o) payload d h = h
is_verified says denies s (AwaitsValue o gex) payload d h = h
is_verified says denies s (AwaitsNewkeys exchange made host) payload d h = h

is_signed : (denies : Denies) (s : Setting) (stage : Stage) (payload : List ℕ) → DeniesNone denies → SigningDenied s denies stage payload → ⊥
is_signed denies s (Created own) payload d h = h
is_signed denies s (AwaitsGroup o) payload d h = h
is_signed denies s (AwaitsReply o gex local public) payload d h = h
is_signed denies s (AwaitsRequest o) payload d h = h
is_signed denies s (AwaitsValue o gex) payload d h = d.sign s.config h.1
is_signed denies s (AwaitsNewkeys exchange made host) payload d h = h

not_long : (says : Says) (s : Setting) (stage : Stage) (seqn : ℕ) (payload : List ℕ) (n : ℕ) → AnswersSmall says → CarriesSmall says s stage payload → longest_payload < n → IsTooLong says s stage seqn payload n → ⊥
not_long says s (Created own) seqn payload n a c l h =
    let v = a.value h.long.public h.long.small in
    let e = h.long.size in
    omega (arith, l, v, e)
not_long says s (AwaitsGroup o) seqn payload n a c l h =
    let v = a.value h.2.public h.2.small in
    let e = h.2.size in
    omega (arith, l, v, e)
not_long says s (AwaitsReply o gex local public) seqn payload n a c l h = h
not_long says s (AwaitsRequest o) seqn payload n a c l h =
    let both = c h.sizes h.group h.read h.finds in
    let p = both.0 in
    let q = both.1 in
    let e = h.size in
    let f = group_length h.group in
    omega (arith, l, p, q, e, f)
not_long says s (AwaitsValue o gex) seqn payload n a c l h =
    let b = c h.shown h.presents in
    let v = a.value h.own_value h.value_small in
    let w = a.signature h.signature h.signature_small in
    let e = h.size in
    let f = reply_length (is_gex o.names.kex) h.shown.blob h.own_value h.signature in
    omega (arith, l, b, v, w, e, f)
not_long says s (AwaitsNewkeys exchange made host) seqn payload n a c l h = h

memory_left : (says : Says) (denies : Denies) (s : Setting) (stage : Stage) (seqn : ℕ) (payload : List ℕ) (e : Error) → AnswersSmall says → DeniesNone denies → CarriesSmall says s stage payload → PartsAnswer says denies s stage seqn payload e → e ≡ errors.Memory
memory_left says denies s stage seqn payload errors.KexInit a d c h = absurd h
memory_left says denies s stage seqn payload errors.UnknownAlgo a d c h = absurd h
memory_left says denies s stage seqn payload (errors.NoCommonAlgo kind ours theirs) a d c h = absurd h
memory_left says denies s stage seqn payload errors.Version a d c h = absurd h
memory_left says denies s stage seqn payload errors.Kex a d c h = absurd (part_answers says denies s stage seqn payload d h)
memory_left says denies s stage seqn payload errors.PacketAuth a d c h = absurd h
memory_left says denies s stage seqn payload errors.Inconsistent a d c h = absurd h
memory_left says denies s stage seqn payload errors.IndexOutOfBounds a d c h = absurd h
memory_left says denies s stage seqn payload errors.UnknownKey a d c h = absurd h
memory_left says denies s stage seqn payload errors.WrongServerSig a d c h = absurd (is_verified says denies s stage payload d h)
memory_left says denies s stage seqn payload (errors.PacketSize n) a d c h = absurd (not_long says s stage seqn payload n a c h.0 h.1)
memory_left says denies s stage seqn payload errors.Disconnect a d c h = absurd h
memory_left says denies s stage seqn payload errors.DecryptionError a d c h = absurd h
memory_left says denies s stage seqn payload errors.IO a d c h = absurd h
memory_left says denies s stage seqn payload (errors.StrictKeyExchangeViolation type place) a d c h = absurd h
memory_left says denies s stage seqn payload errors.Signature a d c h = absurd (is_signed denies s stage payload d h)
memory_left says denies s stage seqn payload (errors.SshEncoding fault) a d c h = absurd h
memory_left says denies s stage seqn payload (errors.InvalidConfig fault) a d c h = absurd h
memory_left says denies s stage seqn payload errors.Memory a d c h = refl

pub memory_alone : (says : Says) (denies : Denies) (m : Machine) (i : Incoming) (old new : Writer) (p : KexProgress Machine) (error : Error) → AnswersSmall says → DeniesNone denies → CarriesSmall says m.setting m.stage i.payload.now → Progresses says m (Some i) old p new → RefusesStep says denies m (Some i) error → error ≡ errors.Memory
memory_alone says denies m i old new p error a d c t r =
    memory_left says denies m.setting m.stage i.seqn i.payload.now error a d c (rows_exclude says denies m i old new p error t r)
