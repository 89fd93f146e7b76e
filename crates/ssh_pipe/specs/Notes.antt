-- What is told beside a talk, on standard error: lines.
use Rattle.std.specs.Prelude.{◌≡◌, ◌⊎◌, ℕ, ◌+◌, ◌==◌, ◌&&◌, nat_le, not, if◌then◌else◌, Bool, List, [], ◌∷◌, ◌++◌, codes, Option, refl}
use Rattle.std.specs.Fmt.{decimal}
use Rattle.std.specs.List.{flat_map}
use Rattle.hex.specs.Hex.{encode_lower, encode_with}
use Rattle.ssh_wire.specs.Algorithms.{algorithm_name}
use Rattle.ssh_wire.specs.Outside.{Appends, AppendsFront, Rose}
use Rattle.ssh_mac.specs.Names.{mac_name}
use Rattle.ssh_packet.specs.Names.{cipher_name}
use Rattle.ssh_negotiate.specs.Tables.{kex_text}
use Rattle.ssh_negotiate.specs.declared.negotiation.Names.{Names}
use Rattle.ssh_kex.specs.declared.exchange.FinishedExchange.{FinishedExchange}
use Rattle.ssh_lines.specs.Printed.{error_text}
use Rattle.ssh_pipe.specs.declared.end.TalkEnd.{TalkEnd}
use Rattle.ssh_pipe.specs.declared.end.TalkEnd.TheVariants.{Disconnected, Exhausted, Granted, InputEnded, NotServed, Refused, SinkFailed, SourceFailed}

-- what is known of the sink that is told: what it holds, and how many faults it had
pub record Noted : Type 0 where
  pub held : Option (List ℕ)
  pub faults : ℕ

abbrev pub noted : (held : Option (List ℕ)) → (faults : ℕ) → Noted
noted held faults = record { held = held; faults = faults }

-- A text was told whole; or a front of it was, and a fault was counted.
abbrev pub IsTold : (text : List ℕ) → (before now : Noted) → Type 0
IsTold text before now =
    (Appends text before.held now.held × (now.faults ≡ before.faults))
    ⊎ (AppendsFront text before.held now.held × Rose before.faults now.faults)

-- Each of these lines was told, in order, or left out.
abbrev pub TellsLines : (lines : List (List ℕ)) → (before now : Noted) → Type 0
TellsLines [] before now = now ≡ before
TellsLines (line ∷ lines) before now = (mid : Noted) × (IsTold line before mid ⊎ (mid ≡ before))
    × TellsLines lines mid now

-- ---- the lines of exchanges

-- what was negotiated: key exchange, host key, cipher, both MACs, and whether the order of messages was strict
abbrev pub exchange_words : Names → List (List ℕ)
exchange_words names =
    kex_text names.kex ∷ algorithm_name names.key ∷ cipher_name names.cipher ∷ mac_name names.client_mac
    ∷ mac_name names.server_mac ∷ (if names.strict_kex then codes "strict" else codes "plain") ∷ []

-- the line of exchange k
abbrev pub exchange_note : ℕ → FinishedExchange → List ℕ
exchange_note k x =
    (codes "sshpipe: exchange " ++ decimal k) ++ flat_map (λ word. 32 ∷ word) (exchange_words x.names) ++ 10 ∷ []

-- one line for each exchange, counted from k
abbrev pub exchange_notes : ℕ → List FinishedExchange → List (List ℕ)
exchange_notes k [] = []
exchange_notes k (x ∷ xs) = exchange_note k x ∷ exchange_notes (k + 1) xs

-- ---- text from the peer, so that no byte of it controls the terminal that shows it

-- whether a byte is shown as it is: printable ASCII, except for the backslash
abbrev pub is_shown : ℕ → Bool
is_shown b = nat_le 32 b && nat_le b 126 && not (b == 92)

-- a byte as it is, or `\xHH` with its two hex digits
abbrev pub escaped_byte : ℕ → List ℕ
escaped_byte b = if is_shown b then b ∷ [] else 92 ∷ 120 ∷ encode_lower (b ∷ [])

abbrev pub escaped : List ℕ → List ℕ
escaped text = flat_map escaped_byte text

-- ---- the line of an end

abbrev pub end_words : TalkEnd → List ℕ
end_words InputEnded = codes "the input has ended"
end_words Disconnected = codes "the other side has disconnected"
end_words Granted = codes "the service is granted"
end_words (Refused e) = codes "refused " ++ escaped (error_text e)
end_words NotServed = codes "the service isn't offered"
end_words SourceFailed = codes "reading failed"
end_words SinkFailed = codes "writing failed"
end_words Exhausted = codes "too many pieces were read"

abbrev pub end_note : TalkEnd → List ℕ
end_note end = codes "sshpipe: " ++ end_words end ++ 10 ∷ []

-- ---- the lines of what isn't a talk

abbrev pub usage_note : List ℕ
usage_note =
    codes "usage: sshpipe server KEYFILE [LIMIT]" ++ 10 ∷ codes "       sshpipe client HOSTKEY.pub [LIMIT]" ++ 10 ∷ []

-- the key's file can't be read
abbrev pub unread_note : List ℕ
unread_note = codes "sshpipe: the key's file can't be read" ++ 10 ∷ []

-- what stands in it isn't a key of the side
abbrev pub faulty_note : List ℕ
faulty_note = codes "sshpipe: the key's file isn't an RSA key that can be used" ++ 10 ∷ []

-- a seed can't be drawn
abbrev pub unseeded_note : List ℕ
unseeded_note = codes "sshpipe: there are no random bytes" ++ 10 ∷ []

end-example : end_note Granted ≡ codes "sshpipe: the service is granted" ++ 10 ∷ []
end-example = refl

-- a title for a terminal's window, and a path
escaped-example : escaped (27 ∷ codes "]0;a" ++ 7 ∷ 92 ∷ 127 ∷ 200 ∷ codes "~") ≡ codes "\\x1b]0;a\\x07\\x5c\\x7f\\xc8~"
unfolding encode_with
escaped-example = refl
