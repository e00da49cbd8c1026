-- The tokens of two operands with an operator between, of a conditional and of an assignment are read as it.
use Rattle.std.proofs.Common.{◌≡◌, ◌∙◌, sym, ap, ap₂, subst, refl, ℕ, ◌<◌, ◌≤◌, Bool, true, false, ◌∷◌, arith, Option, Some, None, zero-le, true≢false, not}
use Rattle.std.specs.Prelude.{nat_le, ◌||◌}
use Rattle.std.proofs.lemmas.Bool.{le-leb, lt-leb, leb-true, and_from}
use Rattle.es_model.specs.declared.kinds.BinaryOperator.{BinaryOperator}
use Rattle.es_model.specs.declared.kinds.BinaryOperator.TheVariants as b
use Rattle.es_model.specs.declared.token.TokenKind.{TokenKind}
use Rattle.es_model.specs.Tree as t
use Rattle.es_model.specs.Tree.{Tree}
use Rattle.es_model.specs.Readings.{Tokens, One, word}
use Rattle.es_model.specs.Levels.{level, operator_sign, operator_level, left_level, right_level, assignment_sign, is_nullish, is_bare_new}
use Rattle.es_model.specs.Spelling.{Spells, assigning}
use Rattle.js_parser.specs.declared.words.Word.{Word}
use Rattle.parser_forms.specs.declared.parts.Part.{Part}
use Rattle.js_parser.specs.Frame.{Frame}
use Rattle.js_parser.specs.Frame as f
use Rattle.parser_forms.specs.declared.kinds.Infix.{Infix}
use Rattle.parser_forms.specs.declared.kinds.Infix.TheVariants as i
use Rattle.js_parser.specs.ExpressionFrame as x
use Rattle.js_parser.specs.Words.{word_of}
use Rattle.js_parser.specs.Tables.{slot, gives, gives_by, infix_of, assignment_of, right_of}
use Rattle.parser_forms.specs.Asks.{is_left_of}
use Rattle.js_parser.specs.State.{Frames, operand_due, read}
use Rattle.js_parser.specs.Settle.{taken_by}
use Rattle.parser_forms.specs.Parts as p
use Rattle.js_parser.specs.Machine.{run}
use Rattle.js_parser.proofs.CompleteBase.{takes, here_at, follows, place, line, needs, needs_by, left_needs, Follow, Reads, grip, grip_by, reach, positive, grips, reaches, reaches_base, follow_least, follow_comma, if_true, goes_on_at, closes, gives_needs, gives_comma, gives_product}
use Rattle.js_parser.proofs.CompleteOperands.{target_level}
use Rattle.js_parser.proofs.FormLaws.{binary_is, in_is, instance_of_is, and_is, or_is, nullish_is, comma_is, conditional_is, assign_is}
use Rattle.js_parser.specs.Summary.{part_of}

-- an operator goes on with its left operand
takes_infix : (operator : Infix) (kind : TokenKind) → infix_of (word_of kind) ≡ Some operator → (from to : Tokens) → One (λ token. token.kind ≡ kind) from to →
    (frames : Frames) (part : Part) → slot frames ≤ p.infix_level operator → is_left_of operator part ≡ true →
    run (read part frames) from ≡ run (operand_due (f.Expression (x.Infix operator part) ∷ frames)) to
takes_infix operator kind e from to d frames part h left =
    goes_on_at kind from to d frames part (subst (λ found. slot frames ≤ gives_by found (assignment_of (word_of kind)) (word_of kind) (line from)) (sym e) h)
    ∙ ap (λ found. run (taken_by part frames found (assignment_of (word_of kind)) (word_of kind)) to) e
    ∙ ap (λ st. run st to) (if_true _ _ left)

-- and may stand behind it
infix_follows : (operator : Infix) (kind : TokenKind) → infix_of (word_of kind) ≡ Some operator → (from to : Tokens) → One (λ token. token.kind ≡ kind) from to →
    (n : ℕ) → left_needs operator ≤ n → Follow n from
infix_follows operator kind e from to d n h =
    follows kind from to d n (λ line. subst (λ found. needs_by found (assignment_of (word_of kind)) (word_of kind) line ≤ n) (sym e) h)

-- the form, where what its tokens give is told: its level, and the least levels of what stands left and right
operated : (operator : Infix) (kind : TokenKind) → infix_of (word_of kind) ≡ Some operator →
    (left right : Tree t.expression) → Reads left → Reads right →
    (from mid next to : Tokens) → Spells left from mid → One (λ token. token.kind ≡ kind) mid next → Spells right next to →
    left_needs operator ≤ reach left → p.infix_level operator ≤ level left → right_of operator ≤ level right →
    ((at : ℕ) → is_left_of operator (part_of at left) ≡ true) →
    p.infix_level operator ≤ 14 → p.infix_level operator ≤ right_of operator →
    ((word : Word) (line : Bool) → needs word line ≤ p.infix_level operator → gives word line < right_of operator) →
    (frames : Frames) → slot frames ≤ p.infix_level operator → Follow (p.infix_level operator) to →
    run (operand_due frames) from ≡ run (read (p.operation operator (part_of (place from) left) (part_of (place next) right)) frames) to
operated operator kind e left right reads_left reads_right from mid next to d sign c needed tight least is_left low below ends frames fits follow =
    let frame : Frame = f.Expression (x.Infix operator (part_of (place from) left)) in
    let part : Part = part_of (place next) right in
    let grip_left : p.infix_level operator ≤ grip left = grips left (p.infix_level operator) tight in
    reads_left from mid d frames (omega arith) (infix_follows operator kind e mid next sign (reach left) needed)
    ∙ takes_infix operator kind e mid next sign frames (part_of (place from) left) fits (is_left (place from))
    ∙ reads_right next to c (frame ∷ frames) (grips right (right_of operator) least) (follow_least (p.infix_level operator) (reach right) to (reaches right (p.infix_level operator) (omega arith) (omega arith)) follow)
    ∙ closes frame frames part (p.operation operator (part_of (place from) left) part) (p.infix_level operator) to follow ends (λ again token h. refl)

-- Binary operators, by their table.

sign_of : (operator : BinaryOperator) → infix_of (word_of (word (operator_sign operator))) ≡ Some (i.Binary operator)
unfolding word
sign_of b.Add = refl
sign_of _ = refl

left_at_least : (operator : BinaryOperator) → (operator_level operator ≤ left_level operator) × (left_level operator ≤ 16)
left_at_least b.Add = (omega arith, omega arith)
left_at_least _ = (omega arith, omega arith)

right_at_least : (operator : BinaryOperator) → (operator_level operator ≤ right_level operator) × (operator_level operator ≤ 14)
right_at_least b.Add = (omega arith, omega arith)
right_at_least _ = (omega arith, omega arith)

binary_ends : (operator : BinaryOperator) (word : Word) (line : Bool) → needs word line ≤ operator_level operator → gives word line < right_level operator
binary_ends b.Power word line h = let low : gives word line ≤ 13 = gives_product word line (omega arith) in omega arith
binary_ends _ word line h = let low : gives word line ≤ needs word line = gives_needs word line (omega arith) in omega arith

pub reads_binary : (operator : BinaryOperator) (left right : Tree t.expression) → Reads left → Reads right → Reads (t.Binary operator left right)
unfolding Spells
reads_binary operator left right reads_left reads_right from to d frames fits follow =
    let l : (operator_level operator ≤ left_level operator) × (left_level operator ≤ 16) = left_at_least operator in
    let r : (operator_level operator ≤ right_level operator) × (operator_level operator ≤ 14) = right_at_least operator in
    let h : left_level operator ≤ level left = d.1.0 in
    operated (i.Binary operator) (word (operator_sign operator)) (sign_of operator) left right reads_left reads_right from d.0 d.2.0 to d.1.1 d.2.1 d.2.2.1
    (reaches left (left_level operator) h l.1) (omega (arith, h, l.0)) d.2.2.0 (λ at. le-leb _ _ h) r.1 r.0 (binary_ends operator) frames (fits_binary fits) follow
    ∙ ap (λ part. run (read part frames) to) (binary_is operator (place from) (place d.2.0) left right)
  where
    fits_binary : slot frames ≤ grip (t.Binary operator left right) → slot frames ≤ operator_level operator
    fits_binary h = subst (λ x. slot frames ≤ grip_by x false (operator_level operator)) (lt-leb 17 (operator_level operator) (omega (arith, (right_at_least operator).1))) h

-- The others.

low_ends : (n m : ℕ) → n ≤ 16 → n < m → (word : Word) (line : Bool) → needs word line ≤ n → gives word line < m
low_ends n m h l word line c = let low : gives word line ≤ needs word line = gives_needs word line (omega arith) in omega arith

pub reads_in : (left right : Tree t.expression) → Reads left → Reads right → Reads (t.In left right)
unfolding Spells word
reads_in left right reads_left reads_right from to d frames fits follow =
    operated i.In (word "in") refl left right reads_left reads_right from d.0 d.2.0 to d.1.1 d.2.1 d.2.2.1
    (reaches left 10 d.1.0 (omega arith)) d.1.0 d.2.2.0 (λ at. le-leb _ _ d.1.0) (omega arith) (omega arith) (low_ends 10 11 (omega arith) (omega arith)) frames fits follow
    ∙ ap (λ part. run (read part frames) to) (in_is (place from) (place d.2.0) left right)

pub reads_instance_of : (left right : Tree t.expression) → Reads left → Reads right → Reads (t.InstanceOf left right)
unfolding Spells word
reads_instance_of left right reads_left reads_right from to d frames fits follow =
    operated i.InstanceOf (word "instanceof") refl left right reads_left reads_right from d.0 d.2.0 to d.1.1 d.2.1 d.2.2.1
    (reaches left 10 d.1.0 (omega arith)) d.1.0 d.2.2.0 (λ at. le-leb _ _ d.1.0) (omega arith) (omega arith) (low_ends 10 11 (omega arith) (omega arith)) frames fits follow
    ∙ ap (λ part. run (read part frames) to) (instance_of_is (place from) (place d.2.0) left right)

pub reads_and : (left right : Tree t.expression) → Reads left → Reads right → Reads (t.And left right)
unfolding Spells word
reads_and left right reads_left reads_right from to d frames fits follow =
    operated i.And (word "&&") refl left right reads_left reads_right from d.0 d.2.0 to d.1.1 d.2.1 d.2.2.1
    (reaches left 5 d.1.0 (omega arith)) d.1.0 d.2.2.0 (λ at. le-leb _ _ d.1.0) (omega arith) (omega arith) (low_ends 5 6 (omega arith) (omega arith)) frames fits follow
    ∙ ap (λ part. run (read part frames) to) (and_is (place from) (place d.2.0) left right)

pub reads_or : (left right : Tree t.expression) → Reads left → Reads right → Reads (t.Or left right)
unfolding Spells word
reads_or left right reads_left reads_right from to d frames fits follow =
    operated i.Or (word "||") refl left right reads_left reads_right from d.0 d.2.0 to d.1.1.1 d.2.1 d.2.2.1
    (reaches left 4 d.1.1.0 (omega arith)) d.1.1.0 d.2.2.0 (λ at. and_from _ _ (le-leb _ _ d.1.1.0) (ap not d.1.0)) (omega arith) (omega arith) (low_ends 4 5 (omega arith) (omega arith)) frames fits follow
    ∙ ap (λ part. run (read part frames) to) (or_is (place from) (place d.2.0) left right)

nullish_level : (e : Tree t.expression) → is_nullish e ≡ true → 4 ≤ level e
nullish_level (t.Nullish l r) h = omega arith
nullish_level _ h = absurd (true≢false (sym h))

nullish_left : (left : Tree t.expression) → (is_nullish left || nat_le 6 (level left)) ≡ true → 4 ≤ level left
nullish_left left h = by (is_nullish left) refl
  where
    by : (x : Bool) → is_nullish left ≡ x → 4 ≤ level left
    by true e = nullish_level left e
    by false e = let high : 6 ≤ level left = leb-true _ _ (subst (λ x. (x || nat_le 6 (level left)) ≡ true) e h) in omega arith

pub reads_nullish : (left right : Tree t.expression) → Reads left → Reads right → Reads (t.Nullish left right)
unfolding Spells word
reads_nullish left right reads_left reads_right from to d frames fits follow =
    let h : 4 ≤ level left = nullish_left left d.1.0 in
    operated i.Nullish (word "??") refl left right reads_left reads_right from d.0 d.2.0 to d.1.1 d.2.1 d.2.2.1
    (reaches left 4 h (omega arith)) h d.2.2.0 (λ at. d.1.0) (omega arith) (omega arith) (low_ends 4 6 (omega arith) (omega arith)) frames fits follow
    ∙ ap (λ part. run (read part frames) to) (nullish_is (place from) (place d.2.0) left right)

pub reads_comma : (left right : Tree t.expression) → Reads left → Reads right → Reads (t.Comma left right)
unfolding Spells word
reads_comma left right reads_left reads_right from to d frames fits follow =
    let h : 1 ≤ level left = positive left in
    operated i.Comma (word ",") refl left right reads_left reads_right from d.0 d.2.0 to d.1 d.2.1 d.2.2.1
    (reaches left 1 h (omega arith)) h d.2.2.0 (λ at. le-leb _ _ h) (omega arith) (omega arith) (low_ends 1 2 (omega arith) (omega arith)) frames fits follow
    ∙ ap (λ part. run (read part frames) to) (comma_is (place from) (place d.2.0) left right)

-- Conditionals and assignments, whose last operand is as loose as an assignment.

pub assign_ends : (n : ℕ) → n ≤ 3 → (word : Word) (line : Bool) → needs word line ≤ n → gives word line < 2
assign_ends n h word line c = let low : gives word line ≤ 1 = gives_comma word line (omega arith) in omega arith

pub reads_conditional : (test one other : Tree t.expression) → Reads test → Reads one → Reads other → Reads (t.Conditional test one other)
unfolding Spells word
reads_conditional test one other reads_test reads_one reads_other from to d frames fits follow =
    let first : Part = part_of (place from) test in
    let second : Part = part_of (place d.2.0) one in
    let third : Part = part_of (place d.2.2.2.0) other in
    let frame : Frame = f.Expression (x.No first second) in
    reads_test from d.0 d.1.1 frames (grips_at test d.1.0) (follows _ d.0 d.2.0 d.2.1 (reach test) (λ line. reaches test 4 d.1.0 (omega arith)))
    ∙ goes_on_at _ d.0 d.2.0 d.2.1 frames first fits
    ∙ ap (λ st. run st d.2.0) (if_true _ _ (le-leb _ _ d.1.0))
    ∙ reads_one d.2.0 d.2.2.0 d.2.2.1.1 (f.Expression (x.Yes first) ∷ frames) (grips one 2 d.2.2.1.0) (follows _ d.2.2.0 d.2.2.2.0 d.2.2.2.1 (reach one) (λ line. zero-le))
    ∙ takes _ d.2.2.0 d.2.2.2.0 d.2.2.2.1 (read second (f.Expression (x.Yes first) ∷ frames))
    ∙ reads_other d.2.2.2.0 to d.2.2.2.2.1 (frame ∷ frames) (grips other 2 d.2.2.2.2.0) (follow_low other d.2.2.2.2.0)
    ∙ closes frame frames third (p.conditional first second third) 3 to follow (assign_ends 3 (omega arith)) (λ again token h. refl)
    ∙ ap (λ part. run (read part frames) to) (conditional_is (place from) (place d.2.0) (place d.2.2.2.0) test one other)
  where
    grips_at : (e : Tree t.expression) → 4 ≤ level e → slot frames ≤ grip e
    grips_at e h = let low : 4 ≤ grip e = grips e 4 h in omega arith

    follow_low : (e : Tree t.expression) → 2 ≤ level e → Follow (reach e) to
    follow_low e h = follow_least 1 (reach e) to (reaches e 1 (omega arith) (omega arith)) (follow_comma to follow)

-- the sign of an assignment
pub record AssignmentSign (operator : Option BinaryOperator) (from to : Tokens) : Type 0 where
  kind : TokenKind
  stands : One (λ token. token.kind ≡ kind) from to
  no_infix : infix_of (word_of kind) ≡ None
  assigns : assignment_of (word_of kind) ≡ Some operator

assignment_sign_of : (operator : Option BinaryOperator) (from to : Tokens) → assigning (assignment_sign operator) from to → AssignmentSign operator from to
unfolding word
assignment_sign_of None from to d = record { kind = word "="; stands = d; no_infix = refl; assigns = refl }
assignment_sign_of (Some b.Add) from to d = record { kind = word "+="; stands = d; no_infix = refl; assigns = refl }
assignment_sign_of (Some b.Subtract) from to d = record { kind = word "-="; stands = d; no_infix = refl; assigns = refl }
assignment_sign_of (Some b.Multiply) from to d = record { kind = word "*="; stands = d; no_infix = refl; assigns = refl }
assignment_sign_of (Some b.Divide) from to d = record { kind = word "/="; stands = d; no_infix = refl; assigns = refl }
assignment_sign_of (Some b.Remainder) from to d = record { kind = word "%="; stands = d; no_infix = refl; assigns = refl }
assignment_sign_of (Some b.Power) from to d = record { kind = word "**="; stands = d; no_infix = refl; assigns = refl }
assignment_sign_of (Some b.BitAnd) from to d = record { kind = word "&="; stands = d; no_infix = refl; assigns = refl }
assignment_sign_of (Some b.BitOr) from to d = record { kind = word "|="; stands = d; no_infix = refl; assigns = refl }
assignment_sign_of (Some b.BitXor) from to d = record { kind = word "^="; stands = d; no_infix = refl; assigns = refl }
assignment_sign_of (Some b.ShiftLeft) from to d = record { kind = word "<<="; stands = d; no_infix = refl; assigns = refl }
assignment_sign_of (Some b.ShiftRight) from to d = record { kind = word ">>="; stands = d; no_infix = refl; assigns = refl }
assignment_sign_of (Some b.ShiftRightUnsigned) from to d = record { kind = word ">>>="; stands = d; no_infix = refl; assigns = refl }
assignment_sign_of (Some _) from to d = absurd d

takes_assignment : (operator : Option BinaryOperator) (from to : Tokens) → AssignmentSign operator from to → (frames : Frames) (part : Part) → slot frames ≤ 2 → part.is_target ≡ true →
    run (read part frames) from ≡ run (operand_due (f.Expression (x.Assign part operator) ∷ frames)) to
takes_assignment operator from to s frames part h target =
    goes_on_at s.kind from to s.stands frames part
    (subst (λ found. slot frames ≤ gives_by found (assignment_of (word_of s.kind)) (word_of s.kind) (line from)) (sym s.no_infix)
    (subst (λ assignment. slot frames ≤ gives_by None assignment (word_of s.kind) (line from)) (sym s.assigns) h))
    ∙ ap₂ (λ found assignment. run (taken_by part frames found assignment (word_of s.kind)) to) s.no_infix s.assigns
    ∙ ap (λ st. run st to) (if_true _ _ target)

assignment_follows : (operator : Option BinaryOperator) (from to : Tokens) → AssignmentSign operator from to → (n : ℕ) → 17 ≤ n → Follow n from
assignment_follows operator from to s n h =
    follows s.kind from to s.stands n
    (λ line. subst (λ found. needs_by found (assignment_of (word_of s.kind)) (word_of s.kind) line ≤ n) (sym s.no_infix)
    (subst (λ assignment. needs_by None assignment (word_of s.kind) line ≤ n) (sym s.assigns) h))

pub reads_assign : (at : ℕ) (left : Tree t.expression) (operator : Option BinaryOperator) (value : Tree t.expression) → Reads left → Reads value → Reads (t.Assign at left operator value)
unfolding Spells
reads_assign at left operator value reads_left reads_value from to d frames fits follow =
    let e : place from ≡ at = here_at at from d.0 in
    let tight : (17 ≤ level left) × (is_bare_new left ≡ false) = target_level left d.1.1.0 in
    let low : 17 ≤ grip left = grips left 17 tight.0 in
    let sign : AssignmentSign operator d.1.0 d.1.2.0 = assignment_sign_of operator d.1.0 d.1.2.0 d.1.2.1 in
    let first : Part = part_of (place from) left in
    let second : Part = part_of (place d.1.2.0) value in
    let frame : Frame = f.Expression (x.Assign first operator) in
    reads_left from d.1.0 d.1.1.1 frames (omega arith) (assignment_follows operator d.1.0 d.1.2.0 sign (reach left) (reaches_base left tight.0 tight.1))
    ∙ takes_assignment operator d.1.0 d.1.2.0 sign frames first fits d.1.1.0
    ∙ reads_value d.1.2.0 to d.1.2.2.1 (frame ∷ frames) (grips value 2 d.1.2.2.0) (follow_least 2 (reach value) to (reaches value 2 d.1.2.2.0 (omega arith)) follow)
    ∙ closes frame frames second (p.assign first operator second) 2 to follow (assign_ends 2 (omega arith)) (λ again token h. refl)
    ∙ ap (λ part. run (read part frames) to)
    (ap (λ a. p.assign (part_of a left) operator (part_of (place d.1.2.0) value)) e ∙ assign_is at (place d.1.2.0) left operator value ∙ ap (λ a. part_of a (t.Assign at left operator value)) (sym e))
