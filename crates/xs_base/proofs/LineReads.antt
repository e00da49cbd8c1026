-- Reads of lines one after another.
use Rattle.std.proofs.Common.{◌≡◌, ◌++◌, ℕ, List, [], ◌∷◌, true, false, Option, Some, None, Ok, Err, IfSome, ap, sym, refl, subst, ◌∙◌}
use Rattle.std.specs.Io.KnownBytes.{Keeps}
use Rattle.xs_base.specs.declared.lines.ReadFault.{ReadFault}
use Rattle.xs_base.specs.Line.{GivesLine, TakesLines, Took}

-- ---- where all is told

TakesLines-append : (bytes mid rest : List ℕ) (xs ys : List (List ℕ)) → TakesLines bytes mid xs → TakesLines mid rest ys → TakesLines bytes rest (xs ++ ys)
TakesLines-append bytes mid rest [] ys a b = subst (λ bs. TakesLines bs rest ys) a b
TakesLines-append bytes mid rest (x ∷ xs) ys a b = (a.0, a.1, TakesLines-append a.0 mid rest xs ys a.2 b)

-- ---- where it may be told

pub Took-none : (old : Option (List ℕ)) → Took old old []
Took-none None = tt
Took-none (Some bytes) = (bytes, refl, refl)

-- what is taken from a known input
known : (rest : List ℕ) (mid new : Option (List ℕ)) (ys : List (List ℕ)) → mid ≡ Some rest → Took mid new ys → Took (Some rest) new ys
known rest mid new ys e t = subst (λ m. Took m new ys) e t

pub Took-after : (old mid new : Option (List ℕ)) (xs ys : List (List ℕ)) → Took old mid xs → Took mid new ys → Took old new (xs ++ ys)
Took-after None mid new xs ys a b = tt
Took-after (Some bytes) mid new xs ys a b =
    let t : Took (Some a.0) new ys = known a.0 mid new ys a.1 b in
    (t.0, t.1, TakesLines-append bytes a.0 t.0 xs ys a.2 t.2)

-- one line, as a list of one
one_line : (old new : Option (List ℕ)) (line : List ℕ) → GivesLine {E = ReadFault} old new (Ok true) line → Took old new (line ∷ [])
one_line None new line g = tt
one_line (Some bytes) new line g = (g.0, g.1, (g.0, g.2, refl))

-- one line more
pub Took-line : (old mid new : Option (List ℕ)) (lines : List (List ℕ)) (line : List ℕ) → Took old mid lines → GivesLine {E = ReadFault} mid new (Ok true) line → Took old new (lines ++ line ∷ [])
Took-line old mid new lines line t g = Took-after old mid new lines (line ∷ []) t (one_line mid new line g)

no_line : (old new : Option (List ℕ)) → Keeps old new → Took old new []
no_line None new k = tt
no_line (Some bytes) None k = absurd k
no_line (Some bytes) (Some rest) k = (rest, refl, k)

append-none : (xs : List (List ℕ)) → xs ++ [] ≡ xs
append-none [] = refl
append-none (x ∷ xs) = ap (λ ys. x ∷ ys) (append-none xs)

-- what takes nothing
pub Took-kept : (old mid new : Option (List ℕ)) (lines : List (List ℕ)) → Took old mid lines → Keeps mid new → Took old new lines
Took-kept old mid new lines t k = subst (Took old new) (append-none lines) (Took-after old mid new lines [] t (no_line mid new k))

-- a fault takes nothing
pub Took-fault : (old mid new : Option (List ℕ)) (lines : List (List ℕ)) (line : List ℕ) (fault : ReadFault) → Took old mid lines → GivesLine {E = ReadFault} mid new (Err fault) line → Took old new lines
Took-fault old mid new lines line fault t g = Took-kept old mid new lines t g

ended : (old new : Option (List ℕ)) (line : List ℕ) → GivesLine {E = ReadFault} old new (Ok false) line → Took old new [] × IfSome old (λ _. new ≡ Some [])
ended None new line g = (tt, tt)
ended (Some bytes) new line g = ((g.0, g.1, g.2.1 ∙ sym g.2.0), g.1 ∙ ap Some g.2.1)

-- the end takes nothing
pub Took-end : (old mid new : Option (List ℕ)) (lines : List (List ℕ)) (line : List ℕ) → Took old mid lines → GivesLine {E = ReadFault} mid new (Ok false) line → Took old new lines
Took-end old mid new lines line t g = subst (Took old new) (append-none lines) (Took-after old mid new lines [] t (ended mid new line g).0)

-- at the end nothing is left
pub left-end : (old mid new : Option (List ℕ)) (lines : List (List ℕ)) (line : List ℕ) → Took old mid lines → GivesLine {E = ReadFault} mid new (Ok false) line → IfSome old (λ _. new ≡ Some [])
left-end None mid new lines line t g = tt
left-end (Some bytes) mid new lines line t g = (ended (Some t.0) new line (subst (λ m. GivesLine {E = ReadFault} m new (Ok false) line) t.1 g)).1
