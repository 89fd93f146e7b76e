-- The words of an exchange's line, appended one after the other.
use Rattle.std.proofs.Common.{◌≡◌, ℕ, List, [], ◌∷◌, ◌++◌, codes, decimal, refl, sym, ap, ◌∙◌, append_assoc, append-nil}
use Rattle.std.proofs.lemmas.Grind.{flat_map-append}
use Rattle.ssh_script.proofs.Names.{join_with_byte-first}
use Rattle.std.specs.List.{flat_map, join_with_byte}
use Rattle.ssh_wire.specs.declared.side.Side.{Side}
use Rattle.ssh_kex.specs.declared.exchange.FinishedExchange.{FinishedExchange}
use Rattle.ssh_lines.specs.Printed.{side_name, hex_word}
use Rattle.ssh_script.specs.RunReport.{names_words, exchange_line}

cons_append : (b : ℕ) (xs ys : List ℕ) → (b ∷ xs) ++ ys ≡ b ∷ (xs ++ ys)
cons_append b xs ys = refl

words_behind : (n8 n7 n6 n5 n4 n3 n2 n1 out side name k names hash id : List ℕ)
    → n8 ≡ n7 ++ 10 ∷ [] → n7 ≡ n6 ++ id → n6 ≡ n5 ++ 32 ∷ [] → n5 ≡ n4 ++ hash → n4 ≡ n3 ++ 32 ∷ []
    → n3 ≡ n2 ++ names → n2 ≡ n1 ++ k → n1 ≡ out ++ (side ++ 32 ∷ name ++ 32 ∷ [])
    → n8 ≡ out ++ (side ++ 32 ∷ (name ++ 32 ∷ (k ++ (names ++ 32 ∷ (hash ++ 32 ∷ (id ++ 10 ∷ []))))))
words_behind n8 n7 n6 n5 n4 n3 n2 n1 out side name k names hash id h8 h7 h6 h5 h4 h3 h2 h1 = rw (h8, h7, h6, h5, h4, h3, h2, h1) (simp (append_assoc, cons_append))

end_of : (k names hash id : List ℕ) → (k ++ (names ++ 32 ∷ (hash ++ 32 ∷ id))) ++ 10 ∷ [] ≡ k ++ (names ++ 32 ∷ (hash ++ 32 ∷ (id ++ 10 ∷ [])))
end_of k names hash id = append_assoc k (names ++ 32 ∷ (hash ++ 32 ∷ id)) (10 ∷ []) ∙ ap (λ t. k ++ t) (append_assoc names (32 ∷ (hash ++ 32 ∷ id)) (10 ∷ []) ∙ ap (λ t. names ++ 32 ∷ t) (append_assoc hash (32 ∷ id) (10 ∷ [])))

whole_line : (side name k names hash id : List ℕ) → (side ++ 32 ∷ (name ++ 32 ∷ (k ++ (names ++ 32 ∷ (hash ++ 32 ∷ (id ++ [])))))) ++ 10 ∷ [] ≡ side ++ 32 ∷ (name ++ 32 ∷ (k ++ (names ++ 32 ∷ (hash ++ 32 ∷ (id ++ 10 ∷ [])))))
whole_line side name k names hash id =
    ap (λ t. (side ++ 32 ∷ (name ++ 32 ∷ (k ++ (names ++ 32 ∷ (hash ++ 32 ∷ t))))) ++ 10 ∷ []) (append-nil id)
    ∙ (append_assoc side (32 ∷ (name ++ 32 ∷ (k ++ (names ++ 32 ∷ (hash ++ 32 ∷ id))))) (10 ∷ [])
    ∙ ap (λ t. side ++ 32 ∷ t) (append_assoc name (32 ∷ (k ++ (names ++ 32 ∷ (hash ++ 32 ∷ id)))) (10 ∷ [])
    ∙ ap (λ t. name ++ 32 ∷ t) (end_of k names hash id)))

line_of : (side name k hash id : List ℕ) (names : List (List ℕ)) → side ++ 32 ∷ (name ++ 32 ∷ (k ++ (flat_map (λ word. 32 ∷ word) names ++ 32 ∷ (hash ++ 32 ∷ (id ++ 10 ∷ []))))) ≡ join_with_byte 32 (side ∷ name ∷ k ∷ names ++ hash ∷ id ∷ []) ++ 10 ∷ []
line_of side name k hash id names =
    let f : List ℕ → List ℕ = λ word. 32 ∷ word in
    sym (ap (λ t. t ++ 10 ∷ []) (sym (join_with_byte-first 32 side (name ∷ k ∷ names ++ hash ∷ id ∷ [])))
    ∙ (ap (λ t. (side ++ ((32 ∷ name) ++ ((32 ∷ k) ++ t))) ++ 10 ∷ []) (flat_map-append f names (hash ∷ id ∷ []))
    ∙ whole_line side name k (flat_map f names) hash id))

pub exchange_behind : (n8 n7 n6 n5 n4 n3 n2 n1 out : List ℕ) (side : Side) (k : ℕ) (x : FinishedExchange)
    → n8 ≡ n7 ++ 10 ∷ [] → n7 ≡ n6 ++ hex_word x.session_id → n6 ≡ n5 ++ 32 ∷ [] → n5 ≡ n4 ++ hex_word x.hash → n4 ≡ n3 ++ 32 ∷ []
    → n3 ≡ n2 ++ flat_map (λ word. 32 ∷ word) (names_words x.names) → n2 ≡ n1 ++ decimal k → n1 ≡ out ++ (side_name side ++ 32 ∷ codes "exchange" ++ 32 ∷ [])
    → n8 ≡ out ++ exchange_line side k x
exchange_behind n8 n7 n6 n5 n4 n3 n2 n1 out side k x h8 h7 h6 h5 h4 h3 h2 h1 =
    words_behind n8 n7 n6 n5 n4 n3 n2 n1 out (side_name side) (codes "exchange") (decimal k) (flat_map (λ word. 32 ∷ word) (names_words x.names)) (hex_word x.hash) (hex_word x.session_id) h8 h7 h6 h5 h4 h3 h2 h1
    ∙ ap (λ t. out ++ t) (line_of (side_name side) (codes "exchange") (decimal k) (hex_word x.hash) (hex_word x.session_id) (names_words x.names))
