-- Whether all lists of an offer can be advertised.
use Rattle.std.proofs.Common.{◌≡◌, Bool, ◌&&◌, ◌↔◌, IsTrue, sym, ◌∙◌}
use Rattle.std.proofs.lemmas.Bool.{and_parts, and_from}
use Rattle.ssh_negotiate.specs.Advertised.{Offers, kex_texts, key_texts, cipher_texts, mac_texts, compression_texts}
use Rattle.ssh_negotiate.specs.Laws.{IsListed, IsWithin}

pub all_within : (o : Offers) (r a b c d e : Bool) → r ≡ (a && (b && (c && (d && e)))) → (IsTrue a ↔ IsListed (kex_texts o)) → (IsTrue b ↔ IsListed (key_texts o)) → (IsTrue c ↔ IsListed (cipher_texts o)) → (IsTrue d ↔ IsListed (mac_texts o)) → (IsTrue e ↔ IsListed (compression_texts o)) → (IsTrue r ↔ IsWithin o)
all_within o r a b c d e all ka kb kc kd ke = (to_within, from_within)
  where
    to_within : IsTrue r → IsWithin o
    to_within t =
        let p = and_parts a (b && (c && (d && e))) (sym all ∙ t) in
        let q = and_parts b (c && (d && e)) p.1 in
        let s = and_parts c (d && e) q.1 in
        let u = and_parts d e s.1 in
        record { kex = ka.0 p.0; key = kb.0 q.0; cipher = kc.0 s.0; mac = kd.0 u.0; compression = ke.0 u.1 }

    from_within : IsWithin o → IsTrue r
    from_within w = all ∙ and_from a _ (ka.1 w.kex) (and_from b _ (kb.1 w.key) (and_from c _ (kc.1 w.cipher) (and_from d e (kd.1 w.mac) (ke.1 w.compression))))
