-- What a call and a message do, from what is done to the end.
use Rattle.std.proofs.Common.{◌≡◌, ℕ, ◌+◌, ◌-◌, ◌^◌, ◌++◌, nat_le, nat_lt, not, ◌&&◌, ◌||◌, Bool, true, false, if◌then◌else◌, List, [], ◌∷◌, Option, Some, None, Result, Ok, Err, IfErr, refl, ap, sym, ◌∙◌, subst, append-nil, inl, inr}
use Rattle.ssh_channels.specs.Asking.{CallsOn, HearsOn, IsRefused, awaits_answer, excess, fault_in_place, fault_unless, message_fault}
use Rattle.ssh_channels.specs.Ends.{Call, CallClose, CallEof, Calls, End, Read, Receives, Sends, Write, has_ended, taken, tells}
use Rattle.ssh_channels.specs.Muxes.{Channel}
use Rattle.ssh_channels.specs.Phases.{Adjust, Close, Confirmation, Data, Eof, Failed, Failure, Message, Phase, Shut, Silent, Talking, is_live, is_refused, may_send}
use Rattle.ssh_channels.specs.Phases as phases
use Rattle.ssh_channels.specs.Pumping.{Pumps}
use Rattle.ssh_channels.specs.Texts.{text, texts}
use Rattle.ssh_channels.specs.declared.fault.MuxFault.{MuxFault}
use Rattle.ssh_channels.specs.declared.fault.MuxFault.TheVariants.{Unexpected}

-- calls that send
pub wrote : (own : ℕ) (bytes : List ℕ) (old new : Channel) (mid : End) (out out' : List (List ℕ)) → has_ended old.end ≡ false
    → mid ≡ record old.end { written = old.end.written ++ bytes } → Pumps old.peer mid out new.end out' → new ≡ record old { end = new.end }
    → CallsOn own (Write bytes) old out new out'
wrote own bytes old new mid out out' live e p n = record {
  messages = p.0;
  end = new.end;
  calls = (live, subst (λ m. Sends m p.0 new.end) e p.1);
  new_is = n;
  out_is = p.2 own;
}

pub ended : (own : ℕ) (old new : Channel) (mid : End) (out out' : List (List ℕ)) → has_ended old.end ≡ false
    → mid ≡ record old.end { eof_called = true } → Pumps old.peer mid out new.end out' → new ≡ record old { end = new.end }
    → CallsOn own CallEof old out new out'
ended own old new mid out out' live e p n = record {
  messages = p.0;
  end = new.end;
  calls = (live, subst (λ m. Sends m p.0 new.end) e p.1);
  new_is = n;
  out_is = p.2 own;
}

left_false : (a b : Bool) → (a || b) ≡ false → a ≡ false
left_false true b e = e
left_false false b e = refl

right_false : (a b : Bool) → (a || b) ≡ false → b ≡ false
right_false true b e = cc
right_false false b e = e

pub closed : (own : ℕ) (old new : Channel) (mid : End) (out out' : List (List ℕ)) → (old.end.close_called || is_refused old.end.heard) ≡ false
    → mid ≡ record old.end { close_called = true } → Pumps old.peer mid out new.end out' → new ≡ record old { end = new.end }
    → CallsOn own CallClose old out new out'
closed own old new mid out out' live e p n = record {
  messages = p.0;
  end = new.end;
  calls = (left_false _ _ live, right_false old.end.close_called _ live, subst (λ m. Sends m p.0 new.end) e p.1);
  new_is = n;
  out_is = p.2 own;
}

one_text : (own peer : ℕ) (b : Bool) (m : Message) (t : List ℕ) → t ≡ text own peer m → (if b then t ∷ [] else []) ≡ texts own peer (if b then m ∷ [] else [])
one_text own peer true m t e = ap (λ x. x ∷ []) e
one_text own peer false m t e = refl

both_ways : {A B C : Type 0} (f : A → B → C) (x y : A) (z w : B) → x ≡ y → z ≡ w → f x z ≡ f y w
both_ways f x y z w a b = ap (λ k. f k z) a ∙ ap (f y) b

-- a read
pub was_read : (own n count told : ℕ) (says : Bool) (old new : Channel) (out out' : List (List ℕ)) → count ≡ taken old.end n → says ≡ tells old.end n
    → told ≡ (if says then old.end.told + count else old.end.told)
    → out' ≡ out ++ (if says then text 0 old.peer (Adjust count) ∷ [] else [])
    → new ≡ record old { end = record old.end { read = old.end.read + count; told = told } }
    → CallsOn own (Read n) old out new out'
was_read own n count told says old new out out' c s t o h = record {
  messages = if tells old.end n then Adjust (taken old.end n) ∷ [] else [];
  end = record old.end { read = old.end.read + taken old.end n; told = if tells old.end n then old.end.told + taken old.end n else old.end.told };
  calls = (refl, refl);
  new_is = h ∙ both_ways (λ k v. record old { end = record old.end { read = old.end.read + k; told = v } }) _ _ _ _ c (t ∙ both_ways (λ b k. if b then old.end.told + k else old.end.told) _ _ _ _ s c);
  out_is = o ∙ ap (λ x. out ++ x) (both_ways (λ b k. if b then text 0 old.peer (Adjust k) ∷ [] else []) _ _ _ _ s c ∙ one_text own old.peer (tells old.end n) (Adjust (taken old.end n)) _ refl);
}

-- messages that let more go out
pub confirmed : (own told w m : ℕ) (old new : Channel) (mid : End) (out out' : List (List ℕ)) → mid ≡ record old.end { heard = Talking; granted = w; largest = m }
    → Pumps told mid out new.end out' → new ≡ record { started = old.started; peer = told; end = new.end } → HearsOn own told (Confirmation w m) old out new out'
confirmed own told w m old new mid out out' e p n = record {
  messages = p.0;
  end = new.end;
  receives = subst (λ x. Sends x p.0 new.end) e p.1;
  new_is = n;
  out_is = p.2 own;
}

pub adjusted : (own told n : ℕ) (old new : Channel) (mid : End) (out out' : List (List ℕ)) → mid ≡ record old.end { granted = old.end.granted + n }
    → Pumps old.peer mid out new.end out' → new ≡ record old { end = new.end } → HearsOn own told (Adjust n) old out new out'
adjusted own told n old new mid out out' e p h = record {
  messages = p.0;
  end = new.end;
  receives = subst (λ x. Sends x p.0 new.end) e p.1;
  new_is = h;
  out_is = p.2 own;
}

-- messages that only end something, or bring data
pub failed : (own told : ℕ) (old new : Channel) (out : List (List ℕ)) → new ≡ record old { end = record old.end { heard = Failed; ended = old.end.ended } } → HearsOn own told Failure old out new out
failed own told old new out h = record { messages = []; end = record old.end { heard = Failed }; receives = (refl, refl); new_is = h; out_is = sym (append-nil out) }

pub came : (own told : ℕ) (bytes : List ℕ) (old new : Channel) (out : List (List ℕ)) → new ≡ record old { end = record old.end { received = old.end.received ++ bytes } } → HearsOn own told (Data bytes) old out new out
came own told bytes old new out h = record { messages = []; end = record old.end { received = old.end.received ++ bytes }; receives = (refl, refl); new_is = h; out_is = sym (append-nil out) }

pub heard_eof : (own told : ℕ) (old new : Channel) (out : List (List ℕ)) → new ≡ record old { end = record old.end { heard = phases.Ended; ended = true } } → HearsOn own told Eof old out new out
heard_eof own told old new out h = record { messages = []; end = record old.end { heard = phases.Ended; ended = true }; receives = (refl, refl); new_is = h; out_is = sym (append-nil out) }

pub shut : (own told : ℕ) (old new : Channel) (mid : End) (out out' : List (List ℕ))
    → mid ≡ record old.end { said = if is_live old.end.said then Shut else old.end.said }
    → out' ≡ out ++ (if is_live old.end.said then text 0 old.peer Close ∷ [] else [])
    → new ≡ record old { end = record mid { heard = Shut; ended = mid.ended } } → HearsOn own told Close old out new out'
shut own told old new mid out out' e o h = record {
  messages = if is_live old.end.said then Close ∷ [] else [];
  end = record old.end { heard = Shut; said = if is_live old.end.said then Shut else old.end.said };
  receives = (refl, refl);
  new_is = h ∙ ap (λ x. record old { end = record x { heard = Shut; ended = x.ended } }) e;
  out_is = o ∙ ap (λ x. out ++ x) (one_text own old.peer (is_live old.end.said) Close _ refl);
}

-- when a message is out of place, or too much
pub confirmation_fault : (c : Channel) (own w m : ℕ) → fault_unless (awaits_answer c.started c.end.heard) (Unexpected 91 own) ≡ message_fault (Confirmation w m) own c
confirmation_fault c own w m = by c.started c.end.heard where
  by : (started : Bool) (heard : Phase) → fault_unless (awaits_answer started heard) (Unexpected 91 own) ≡ message_fault (Confirmation w m) own (record c { started = started; end = record c.end { heard = heard } })
  by true Silent = refl
  by false Silent = refl
  by true Talking = refl
  by false Talking = refl
  by true phases.Ended = refl
  by false phases.Ended = refl
  by true Shut = refl
  by false Shut = refl
  by true Failed = refl
  by false Failed = refl

pub failure_fault : (c : Channel) (own : ℕ) → fault_unless (awaits_answer c.started c.end.heard) (Unexpected 92 own) ≡ message_fault Failure own c
failure_fault c own = by c.started c.end.heard where
  by : (started : Bool) (heard : Phase) → fault_unless (awaits_answer started heard) (Unexpected 92 own) ≡ message_fault Failure own (record c { started = started; end = record c.end { heard = heard } })
  by true Silent = refl
  by false Silent = refl
  by true Talking = refl
  by false Talking = refl
  by true phases.Ended = refl
  by false phases.Ended = refl
  by true Shut = refl
  by false Shut = refl
  by true Failed = refl
  by false Failed = refl

pub eof_fault : (c : Channel) (own : ℕ) → fault_unless (may_send c.end.heard) (Unexpected 96 own) ≡ message_fault Eof own c
eof_fault c own = by c.started c.end.heard where
  by : (started : Bool) (heard : Phase) → fault_unless (may_send heard) (Unexpected 96 own) ≡ message_fault Eof own (record c { started = started; end = record c.end { heard = heard } })
  by true Silent = refl
  by false Silent = refl
  by started Talking = refl
  by started phases.Ended = refl
  by started Shut = refl
  by started Failed = refl

pub close_fault : (c : Channel) (own : ℕ) → fault_unless (is_live c.end.heard) (Unexpected 97 own) ≡ message_fault Close own c
close_fault c own = by c.started c.end.heard where
  by : (started : Bool) (heard : Phase) → fault_unless (is_live heard) (Unexpected 97 own) ≡ message_fault Close own (record c { started = started; end = record c.end { heard = heard } })
  by true Silent = refl
  by false Silent = refl
  by started Talking = refl
  by started phases.Ended = refl
  by started Shut = refl
  by started Failed = refl

pub data_fault : (c : Channel) (own : ℕ) (bytes : List ℕ) → fault_in_place (may_send c.end.heard) (Unexpected 94 own) (excess (Data bytes) own c.end) ≡ message_fault (Data bytes) own c
data_fault c own bytes = by c.started c.end.heard where
  by : (started : Bool) (heard : Phase) → fault_in_place (may_send heard) (Unexpected 94 own) (excess (Data bytes) own c.end) ≡ message_fault (Data bytes) own (record c { started = started; end = record c.end { heard = heard } })
  by true Silent = refl
  by false Silent = refl
  by started Talking = refl
  by started phases.Ended = refl
  by started Shut = refl
  by started Failed = refl

too_much : (b : Bool) (own : ℕ) → fault_unless (not b) (Unexpected 93 own) ≡ (if b then Some (Unexpected 93 own) else None)
too_much true own = refl
too_much false own = refl

pub adjust_fault : (c : Channel) (own n : ℕ) → fault_unless (is_live c.end.heard && not (nat_le (2 ^ 32) ((c.end.granted - c.end.gone) + n))) (Unexpected 93 own) ≡ message_fault (Adjust n) own c
adjust_fault c own n = by c.started c.end.heard where
  by : (started : Bool) (heard : Phase) → fault_unless (is_live heard && not (nat_le (2 ^ 32) ((c.end.granted - c.end.gone) + n))) (Unexpected 93 own)
      ≡ message_fault (Adjust n) own (record c { started = started; end = record c.end { heard = heard } })
  by true Silent = refl
  by false Silent = refl
  by started Talking = too_much (nat_le (2 ^ 32) ((c.end.granted - c.end.gone) + n)) own
  by started phases.Ended = too_much (nat_le (2 ^ 32) ((c.end.granted - c.end.gone) + n)) own
  by started Shut = refl
  by started Failed = refl

-- the same refusals, told by what the message is
pub told_as : {A : Type 0} (a b : Option MuxFault) (unchanged : Type 0) (r : Result A MuxFault) → a ≡ b → IfErr r (λ f. IsRefused a f unchanged) → IfErr r (λ f. IsRefused b f unchanged)
told_as a b unchanged r e h = subst (λ x. IfErr r (λ f. IsRefused x f unchanged)) e h
