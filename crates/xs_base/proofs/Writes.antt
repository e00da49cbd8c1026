-- Writes one after another.
use Rattle.std.proofs.Common.{◌≡◌, ◌∙◌, ◌++◌, ℕ, List, [], take, drop, Option, Result, Ok, Err, ap, sym, refl, append_assoc, append-nil, take-append-drop, subst}
use Rattle.std.specs.Io.KnownBytes.{Appends, Keeps}
use Rattle.std.proofs.KnownBytes.{Appends-nil, Appends-trans, Appends-kept}
use Rattle.xs_base.specs.Outside.{Sent, SentInPart, Receives}

pub Sent-none : (old : Option (List ℕ)) (bytes : List ℕ) → Sent old old bytes bytes
Sent-none old bytes = record { front = []; whole = refl; received = Appends-nil old }

pub Sent-all : (old new : Option (List ℕ)) (bytes : List ℕ) → Sent old new bytes [] → Appends old new bytes
Sent-all old new bytes s = subst (Appends old new) (sym (s.whole ∙ append-nil s.front)) s.received

-- a part of the rest more
pub Sent-more : (old mid new : Option (List ℕ)) (bytes rest part left : List ℕ) → Sent old mid bytes rest → rest ≡ part ++ left → Appends mid new part → Sent old new bytes left
Sent-more old mid new bytes rest part left s e a = record {
  front = s.front ++ part;
  whole = s.whole ∙ ap (λ r. s.front ++ r) e ∙ sym (append_assoc s.front part left);
  received = Appends-trans old mid new s.front part s.received a;
}

-- what takes nothing
pub Sent-kept : (old mid new : Option (List ℕ)) (bytes rest : List ℕ) → Sent old mid bytes rest → Keeps mid new → Sent old new bytes rest
Sent-kept old mid new bytes rest s k = record { front = s.front; whole = s.whole; received = Appends-kept old mid new s.front s.received k }

pub Sent-piece : (old mid new : Option (List ℕ)) (bytes rest : List ℕ) (n : ℕ) → Sent old mid bytes rest → Appends mid new (take n rest) → Sent old new bytes (drop n rest)
Sent-piece old mid new bytes rest n s a = Sent-more old mid new bytes rest (take n rest) (drop n rest) s (sym (take-append-drop n rest)) a

pub Sent-in_part : (old mid new : Option (List ℕ)) (bytes rest : List ℕ) (n : ℕ) → Sent old mid bytes rest → SentInPart mid new (take n rest) → SentInPart old new bytes
Sent-in_part old mid new bytes rest n s p = (p.0 ++ drop n rest, Sent-more old mid new bytes rest p.1.front (p.0 ++ drop n rest) s (sym (take-append-drop n rest) ∙ ap (λ r. r ++ drop n rest) p.1.whole ∙ append_assoc p.1.front p.0 (drop n rest)) p.1.received)

-- a second write after one that was whole
pub Receives-then : {E : Type 0} (old mid new : Option (List ℕ)) (r : Result (Unit {0}) E) (xs ys : List ℕ) → Appends old mid xs → Receives mid new r ys → Receives old new r (xs ++ ys)
Receives-then old mid new (Ok u) xs ys a b = Appends-trans old mid new xs ys a b
Receives-then old mid new (Err e) xs ys a b = (
  b.0,
  record {
    front = xs ++ b.1.front;
    whole = ap (λ r. xs ++ r) b.1.whole ∙ sym (append_assoc xs b.1.front b.0);
    received = Appends-trans old mid new xs b.1.front a b.1.received;
  },
)

-- a front of the first is a front of both
pub SentInPart-longer : (old new : Option (List ℕ)) (xs ys : List ℕ) → SentInPart old new xs → SentInPart old new (xs ++ ys)
SentInPart-longer old new xs ys p = (
  p.0 ++ ys,
  record {
    front = p.1.front;
    whole = ap (λ r. r ++ ys) p.1.whole ∙ append_assoc p.1.front p.0 ys;
    received = p.1.received;
  },
)

pub SentInPart-after : (old mid new : Option (List ℕ)) (xs ys : List ℕ) → Appends old mid xs → SentInPart mid new ys → SentInPart old new (xs ++ ys)
SentInPart-after old mid new xs ys a b = (
  b.0,
  record {
    front = xs ++ b.1.front;
    whole = ap (λ r. xs ++ r) b.1.whole ∙ sym (append_assoc xs b.1.front b.0);
    received = Appends-trans old mid new xs b.1.front a b.1.received;
  },
)
