-- Bytes that are read one by one, and lines that are made of them.
use Rattle.std.proofs.Common.{◌≡◌, ◌≢◌, ◌<◌, ◌++◌, ◌∙◌, ◌==◌, ℕ, Bool, not, true, false, List, [], ◌∷◌, length, Option, Some, None, Ok, Err, ap, refl, sym, append_assoc, append-nil, length-append, arith}
use Rattle.std.specs.Io.KnownBytes.{Keeps, Consumes, IsAtEnd, prepend_known}
use Rattle.std.proofs.lemmas.Bool.Decides.{nat_tests}
use Rattle.std.proofs.lemmas.List.{nil_from_length}
use Rattle.std.proofs.lemmas.List.Elements.{All-push}
use Rattle.xs_base.specs.Line.{next_line, most, IsLine}
use Rattle.xs_base.specs.declared.lines.ReadFault.{ReadFault}
use Rattle.xs_base.specs.Reading.{FillsLine}
use Rattle.xs_base.proofs.Inputs.{next_line-short, next_line-long, next_line-last}

-- ---- one byte

pub Keeps-nothing : (old mid new : Option (List ℕ)) → Keeps old mid → Consumes mid new [] → Keeps old new
Keeps-nothing None mid new k c = tt
Keeps-nothing (Some xs) None new k c = absurd k
Keeps-nothing (Some xs) (Some ys) None k c = absurd c
Keeps-nothing (Some xs) (Some ys) (Some zs) k c = sym c ∙ k

pub Keeps-then : (old mid new : Option (List ℕ)) (bytes : List ℕ) → Keeps old mid → Consumes mid new bytes → Consumes old new bytes
Keeps-then None mid new bytes k c = tt
Keeps-then (Some xs) None new bytes k c = absurd k
Keeps-then (Some xs) (Some ys) None bytes k c = absurd c
Keeps-then (Some xs) (Some ys) (Some zs) bytes k c = sym k ∙ c

-- ---- a byte more of an unfinished line

pub Keeps-more : (old before now : Option (List ℕ)) (held : List ℕ) (byte : ℕ) → Keeps old (prepend_known held before) → Consumes before now (byte ∷ []) → Keeps old (prepend_known (held ++ byte ∷ []) now)
Keeps-more None before now held byte k c = tt
Keeps-more (Some xs) None now held byte k c = absurd k
Keeps-more (Some xs) (Some ys) None held byte k c = absurd c
Keeps-more (Some xs) (Some ys) (Some zs) held byte k c = append_assoc held (byte ∷ []) zs ∙ ap (λ bytes. held ++ bytes) (sym c) ∙ k

pub IsLine-more : (held : List ℕ) (byte : ℕ) → IsLine held → length held < most → byte ≢ 10 → IsLine (held ++ byte ∷ [])
IsLine-more held byte shape short other = record {
  short = omega (arith, length-append held (byte ∷ []));
  unbroken = All-push (λ b. b ≢ 10) held byte shape.unbroken other;
}

-- ---- the ends of a line; `old` is what was left at its beginning

pub FillsLine-short : (old before now : Option (List ℕ)) (held : List ℕ) → Keeps old (prepend_known held before) → IsLine held → length held < most → Consumes before now (10 ∷ []) → FillsLine {E = ReadFault} old now (Ok true) held
FillsLine-short None before now held k shape short c = tt
FillsLine-short (Some xs) None now held k shape short c = absurd k
FillsLine-short (Some xs) (Some ys) None held k shape short c = absurd c
FillsLine-short (Some xs) (Some ys) (Some zs) held k shape short c =
    let whole : xs ≡ (held ++ 10 ∷ []) ++ zs = sym k ∙ ap (λ bytes. held ++ bytes) c ∙ sym (append_assoc held (10 ∷ []) zs) in
    (zs, refl, ap next_line whole ∙ next_line-short held zs shape short)

pub FillsLine-long : (old now : Option (List ℕ)) (held : List ℕ) → Keeps old (prepend_known held now) → IsLine held → length held ≡ most → FillsLine {E = ReadFault} old now (Ok true) held
FillsLine-long None now held k shape long = tt
FillsLine-long (Some xs) None held k shape long = absurd k
FillsLine-long (Some xs) (Some ys) held k shape long = (ys, refl, ap next_line (sym k) ∙ next_line-long held ys shape long)

pub FillsLine-last : (old before now : Option (List ℕ)) (held : List ℕ) → Keeps old (prepend_known held before) → IsLine held → 0 < length held → Keeps before now → IsAtEnd now → FillsLine {E = ReadFault} old now (Ok true) held
FillsLine-last None before now held k shape some c end = tt
FillsLine-last (Some xs) None now held k shape some c end = absurd k
FillsLine-last (Some xs) (Some ys) None held k shape some c end = absurd c
FillsLine-last (Some xs) (Some ys) (Some zs) held k shape some c end =
    let whole : xs ≡ held = sym k ∙ ap (λ bytes. held ++ bytes) (sym c ∙ end) ∙ append-nil held in
    ([], ap Some end, ap next_line whole ∙ next_line-last held shape some)

pub FillsLine-none : (old before now : Option (List ℕ)) (held : List ℕ) → Keeps old (prepend_known held before) → held ≡ [] → Keeps before now → IsAtEnd now → FillsLine {E = ReadFault} old now (Ok false) held
FillsLine-none None before now held k none c end = tt
FillsLine-none (Some xs) None now held k none c end = absurd k
FillsLine-none (Some xs) (Some ys) None held k none c end = absurd c
FillsLine-none (Some xs) (Some ys) (Some zs) held k none c end =
    ([], ap Some end, (sym k ∙ ap (λ bytes. held ++ bytes) (sym c ∙ end) ∙ append-nil held ∙ none, refl))

end_by : (old before now : Option (List ℕ)) (held : List ℕ) (empty : Bool) → (length held == 0) ≡ empty → Keeps old (prepend_known held before) → IsLine held → Keeps before now → IsAtEnd now → FillsLine {E = ReadFault} old now (Ok (not empty)) held
end_by old before now held true e k shape c end = FillsLine-none old before now held k (nil_from_length held (grind (arith, nat_tests))) c end
end_by old before now held false e k shape c end = FillsLine-last old before now held k shape (grind (arith, nat_tests)) c end

pub FillsLine-end : (old before now : Option (List ℕ)) (held : List ℕ) (empty : Bool) → empty ≡ (length held == 0) → Keeps old (prepend_known held before) → IsLine held → Keeps before now → IsAtEnd now → FillsLine {E = ReadFault} old now (Ok (not empty)) held
FillsLine-end old before now held empty e k shape c end = end_by old before now held empty (sym e) k shape c end

pub FillsLine-fault : (old before now : Option (List ℕ)) (held : List ℕ) (fault : ReadFault) → Keeps old (prepend_known held before) → Keeps before now → FillsLine old now (Err fault) held
FillsLine-fault None before now held fault k c = tt
FillsLine-fault (Some xs) None now held fault k c = absurd k
FillsLine-fault (Some xs) (Some ys) None held fault k c = absurd c
FillsLine-fault (Some xs) (Some ys) (Some zs) held fault k c = ap (λ bytes. held ++ bytes) c ∙ k
