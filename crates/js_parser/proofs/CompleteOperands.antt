-- The tokens of an operand are read as it: literals, names, member forms, `new`, and what stands before or behind one operand.
use Rattle.std.proofs.Common.{◌≡◌, ◌∙◌, sym, ap, subst, refl, ℕ, ◌≤◌, Bool, true, false, ◌∷◌, arith, ℤ, zero-le, true≢false, not}
use Rattle.std.proofs.lemmas.Bool.{le-leb, and_from}
use Rattle.es_model.specs.declared.kinds.UnaryOperator.{UnaryOperator}
use Rattle.es_model.specs.declared.kinds.UnaryOperator.TheVariants as u
use Rattle.es_model.specs.declared.names.Identifier.{Identifier}
use Rattle.es_model.specs.Tree as t
use Rattle.es_model.specs.Tree.{Tree, Text}
use Rattle.es_model.specs.Readings.{Tokens, the, word}
use Rattle.es_model.specs.Levels.{level, unary_sign, has_call, is_bare_new, is_target}
use Rattle.es_model.specs.Spelling.{Spells, step as step_sign}
use Rattle.js_parser.specs.declared.words.Word.{Word}
use Rattle.js_parser.specs.declared.words.Word.TheVariants as w
use Rattle.parser_forms.specs.declared.parts.Part.{Part}
use Rattle.js_parser.specs.Frame.{Frame}
use Rattle.js_parser.specs.Frame as f
use Rattle.parser_forms.specs.declared.kinds.Prefix.{Prefix}
use Rattle.parser_forms.specs.declared.kinds.Prefix.TheVariants as prefix
use Rattle.js_parser.specs.ExpressionFrame as x
use Rattle.js_parser.specs.ExpressionDue as xd
use Rattle.js_parser.specs.Tables.{slot, gives}
use Rattle.parser_forms.specs.Asks.{is_base, is_new_callee}
use Rattle.js_parser.specs.State.{Frames, State, operand_due, read, expression_part, the_word}
use Rattle.js_parser.specs.Settle.{new_end}
use Rattle.parser_forms.specs.Parts as p
use Rattle.js_parser.specs.Machine.{run}
use Rattle.js_parser.proofs.CompleteBase.{takes, takes_name, takes_property, name_at, here_at, on_line, follows, place, line, needs, Follow, Reads, grip, reach, grips, grips_one, grips_callee, grip_by, grip_most, reaches, reaches_base, follow_least, if_true, goes_on_at, closes, gives_needs, gives_product}
use Rattle.js_parser.proofs.FormLaws.{this_is, null_is, true_is, false_is, number_is, string_is, name_is, paren_is, dot_is, index_is, super_dot_is, super_index_is, bare_new_is, update_before_is, update_behind_is, unary_is, typeof_is, void_is, delete_is}
use Rattle.js_parser.specs.Summary.{part_of}

pub reads_this : Reads t.This
unfolding Spells word
reads_this from to d frames fits follow = takes _ from to d (operand_due frames) ∙ ap (λ part. run (read part frames) to) (this_is (place from))

pub reads_null : Reads t.Null
unfolding Spells word
reads_null from to d frames fits follow = takes _ from to d (operand_due frames) ∙ ap (λ part. run (read part frames) to) (null_is (place from))

pub reads_true : Reads t.True
unfolding Spells word
reads_true from to d frames fits follow = takes _ from to d (operand_due frames) ∙ ap (λ part. run (read part frames) to) (true_is (place from))

pub reads_false : Reads t.False
unfolding Spells word
reads_false from to d frames fits follow = takes _ from to d (operand_due frames) ∙ ap (λ part. run (read part frames) to) (false_is (place from))

pub reads_number : (number : ℤ) → Reads (t.Number number)
unfolding Spells
reads_number number from to d frames fits follow = takes _ from to d (operand_due frames) ∙ ap (λ part. run (read part frames) to) (number_is (place from) number)

pub reads_string : (text : Text) → Reads (t.String text)
unfolding Spells
reads_string text from to d frames fits follow = takes _ from to d (operand_due frames) ∙ ap (λ part. run (read part frames) to) (string_is (place from) text)

pub reads_name : (one : Identifier) → Reads (t.Name one)
unfolding Spells
reads_name one from to d frames fits follow =
    takes_name one from to d (operand_due frames)
    ∙ ap (λ part. run (read part frames) to) (name_is one ∙ ap (λ at. part_of at (t.Name one)) (sym (name_at one from to d)))

pub reads_paren : (of : Tree t.expression) → Reads of → Reads (t.Paren of)
unfolding Spells word
reads_paren of reads from to d frames fits follow =
    takes _ from d.0 d.1 (operand_due frames)
    ∙ reads d.0 d.2.0 d.2.1 (f.Expression (x.Paren (place from)) ∷ frames) (grips_one of) (follows _ d.2.0 to d.2.2 (reach of) (λ line. zero-le))
    ∙ takes _ d.2.0 to d.2.2 (read (part_of (place d.0) of) (f.Expression (x.Paren (place from)) ∷ frames))
    ∙ ap (λ part. run (read part frames) to) (paren_is (place from) (place d.0) of)

-- Member forms.

pub is_base_of : (at : ℕ) (of : Tree t.expression) → 17 ≤ level of → is_bare_new of ≡ false → is_base (part_of at of) ≡ true
is_base_of at of h c = and_from _ _ (le-leb _ _ h) (ap not c)

-- what holds a member form holds what it is made of
pub grips_base : (of : Tree t.expression) → 17 ≤ level of → grip_by true (has_call of) 17 ≤ grip of
grips_base of h = by (has_call of) refl
  where
    by : (x : Bool) → has_call of ≡ x → grip_by true x 17 ≤ grip of
    by true e = grips of 17 h
    by false e = grips_callee of h e

pub reads_dot : (of : Tree t.expression) (text : Text) → Reads of → Reads (t.Dot of text)
unfolding Spells word
reads_dot of text reads from to d frames fits follow =
    let low : grip_by true (has_call of) 17 ≤ grip of = grips_base of d.1.0.0 in
    let high : grip (t.Dot of text) ≤ 18 = grip_most (t.Dot of text) in
    reads from d.0 d.1.1 frames (omega arith) (follows _ d.0 d.2.0 d.2.1 (reach of) (λ line. reaches_base of d.1.0.0 d.1.0.1))
    ∙ goes_on_at _ d.0 d.2.0 d.2.1 frames (part_of (place from) of) (omega arith)
    ∙ ap (λ st. run st d.2.0) (if_true _ _ (is_base_of (place from) of d.1.0.0 d.1.0.1))
    ∙ takes_property text d.2.0 to d.2.2 (expression_part (xd.Property (part_of (place from) of)) frames) (λ one. read (p.dot (part_of (place from) of) one) frames) (λ token. refl)
    ∙ ap (λ part. run (read part frames) to) (dot_is (place from) of text)

pub reads_index : (of key : Tree t.expression) → Reads of → Reads key → Reads (t.Index of key)
unfolding Spells word
reads_index of key reads reads_key from to d frames fits follow =
    let low : grip_by true (has_call of) 17 ≤ grip of = grips_base of d.1.0.0 in
    let high : grip (t.Index of key) ≤ 18 = grip_most (t.Index of key) in
    let part : Part = part_of (place from) of in
    reads from d.0 d.1.1 frames (omega arith) (follows _ d.0 d.2.0 d.2.1 (reach of) (λ line. reaches_base of d.1.0.0 d.1.0.1))
    ∙ goes_on_at _ d.0 d.2.0 d.2.1 frames part (omega arith)
    ∙ ap (λ st. run st d.2.0) (if_true _ _ (is_base_of (place from) of d.1.0.0 d.1.0.1))
    ∙ reads_key d.2.0 d.2.2.0 d.2.2.1 (f.Expression (x.Index part) ∷ frames) (grips_one key) (follows _ d.2.2.0 to d.2.2.2 (reach key) (λ line. zero-le))
    ∙ takes _ d.2.2.0 to d.2.2.2 (read (part_of (place d.2.0) key) (f.Expression (x.Index part) ∷ frames))
    ∙ ap (λ part. run (read part frames) to) (index_is (place from) (place d.2.0) of key)

pub reads_super_dot : (at : ℕ) (text : Text) → Reads (t.SuperDot at text)
unfolding Spells word
reads_super_dot at text from to d frames fits follow =
    let e : place from ≡ at = here_at at from d.0 in
    takes _ from d.1.0 d.1.1 (operand_due frames)
    ∙ takes _ d.1.0 d.1.2.0 d.1.2.1 (expression_part (xd.Super (place from)) frames)
    ∙ takes_property text d.1.2.0 to d.1.2.2 (expression_part (xd.SuperProperty (place from)) frames) (λ one. read (p.super_dot (place from) one) frames) (λ token. refl)
    ∙ ap (λ part. run (read part frames) to) (ap (λ a. p.super_dot a text) e ∙ super_dot_is at text ∙ ap (λ a. part_of a (t.SuperDot at text)) (sym e))

pub reads_super_index : (at : ℕ) (key : Tree t.expression) → Reads key → Reads (t.SuperIndex at key)
unfolding Spells word
reads_super_index at key reads from to d frames fits follow =
    let e : place from ≡ at = here_at at from d.0 in
    takes _ from d.1.0 d.1.1 (operand_due frames)
    ∙ takes _ d.1.0 d.1.2.0 d.1.2.1 (expression_part (xd.Super (place from)) frames)
    ∙ reads d.1.2.0 d.1.2.2.0 d.1.2.2.1 (f.Expression (x.SuperIndex (place from)) ∷ frames) (grips_one key) (follows _ d.1.2.2.0 to d.1.2.2.2 (reach key) (λ line. zero-le))
    ∙ takes _ d.1.2.2.0 to d.1.2.2.2 (read (part_of (place d.1.2.0) key) (f.Expression (x.SuperIndex (place from)) ∷ frames))
    ∙ ap (λ part. run (read part frames) to)
    (ap (λ a. p.super_index a (part_of (place d.1.2.0) key)) e ∙ super_index_is at (place d.1.2.0) key ∙ ap (λ a. part_of a (t.SuperIndex at key)) (sym e))

-- `new` without arguments

pub is_callee_of : (at : ℕ) (of : Tree t.expression) → 17 ≤ level of → has_call of ≡ false → is_new_callee (part_of at of) ≡ true
is_callee_of at of h c = and_from _ _ (le-leb _ _ h) (ap not c)

bare_end : (arguments bare : State) (part : Part) (word : Word) (line : Bool) → needs word line ≤ 16 → new_end arguments bare part word ≡ bare
bare_end arguments bare part w.LeftParen line h = absurd (omega arith)
bare_end arguments bare part _ line h = refl

pub reads_bare_new : (callee : Tree t.expression) → Reads callee → Reads (t.New callee t.absent)
unfolding Spells word
reads_bare_new callee reads from to d frames fits follow =
    let frame : Frame = f.Expression (x.New (place from)) in
    let part : Part = part_of (place d.0) callee in
    takes _ from d.0 d.1 (operand_due frames)
    ∙ reads d.0 to d.2.1 (frame ∷ frames) (grips_callee callee d.2.0.0 d.2.0.1) (follow_least 16 (reach callee) to (reaches callee 16 (le_trans d.2.0.0) (omega arith)) follow)
    ∙ closes frame frames part (p.bare_new (place from) part) 16 to follow
    (λ word line h. let low : gives word line ≤ needs word line = gives_needs word line h in omega arith)
    (λ again token h. if_true _ _ (is_callee_of (place d.0) callee d.2.0.0 d.2.0.1) ∙ bare_end _ (again (p.bare_new (place from) part)) part (the_word token) token.line_before h)
    ∙ ap (λ part. run (read part frames) to) (bare_new_is (place from) (place d.0) callee)
  where
    le_trans : 17 ≤ level callee → 16 ≤ level callee
    le_trans h = omega arith

-- `++` and `--`

pub target_level : (e : Tree t.expression) → is_target e ≡ true → (17 ≤ level e) × (is_bare_new e ≡ false)
target_level (t.Name one) h = (omega arith, refl)
target_level (t.Dot of text) h = (omega arith, refl)
target_level (t.Index of key) h = (omega arith, refl)
target_level (t.SuperDot at text) h = (omega arith, refl)
target_level (t.SuperIndex at key) h = (omega arith, refl)
target_level (t.Paren of) h = (omega arith, refl)
target_level _ h = absurd (true≢false (sym h))

takes_step : (up : Bool) (from to : Tokens) → step_sign up from to → (frames : Frames) → slot frames ≤ 16 →
    run (operand_due frames) from ≡ run (operand_due (f.Expression (x.Update (place from) up) ∷ frames)) to
unfolding word
takes_step true from to d frames h = takes _ from to d (operand_due frames) ∙ ap (λ st. run st to) (if_true _ _ (le-leb _ _ h))
takes_step false from to d frames h = takes _ from to d (operand_due frames) ∙ ap (λ st. run st to) (if_true _ _ (le-leb _ _ h))

pub reads_update_before : (at : ℕ) (up : Bool) (of : Tree t.expression) → Reads of → Reads (t.Update at up true of)
unfolding Spells
reads_update_before at up of reads from to d frames fits follow =
    let e : place from ≡ at = here_at at from d.0 in
    let tight : (17 ≤ level of) × (is_bare_new of ≡ false) = target_level of d.1.2.0 in
    let frame : Frame = f.Expression (x.Update (place from) up) in
    let part : Part = part_of (place d.1.0) of in
    takes_step up from d.1.0 d.1.1 frames fits
    ∙ reads d.1.0 to d.1.2.1 (frame ∷ frames) (grips of 17 tight.0) (follow_least 16 (reach of) to (le_pred (reaches_base of tight.0 tight.1)) follow)
    ∙ closes frame frames part (p.update_before (place from) up part) 16 to follow
    (λ word line h. let low : gives word line ≤ needs word line = gives_needs word line h in omega arith)
    (λ again token h. if_true _ _ d.1.2.0)
    ∙ ap (λ part. run (read part frames) to)
    (ap (λ a. p.update_before a up part) e ∙ update_before_is at (place d.1.0) up of ∙ ap (λ a. part_of a (t.Update at up true of)) (sym e))
  where
    le_pred : 17 ≤ reach of → 16 ≤ reach of
    le_pred h = omega arith

step_needs : (up : Bool) (from to : Tokens) → step_sign up from to → (n : ℕ) → 17 ≤ n → Follow n from
unfolding word
step_needs true from to d n h = follows _ from to d n (λ line. by line)
  where
    by : (line : Bool) → needs w.PlusPlus line ≤ n
    by true = zero-le
    by false = h
step_needs false from to d n h = follows _ from to d n (λ line. by line)
  where
    by : (line : Bool) → needs w.MinusMinus line ≤ n
    by true = zero-le
    by false = h

takes_step_behind : (up : Bool) (from to : Tokens) → step_sign up from to → line from ≡ false → (frames : Frames) (part : Part) → slot frames ≤ 16 → part.is_target ≡ true →
    run (read part frames) from ≡ run (read (p.update_behind up part) frames) to
unfolding word
takes_step_behind true from to d l frames part h c =
    goes_on_at _ from to d frames part (subst (λ line. slot frames ≤ gives w.PlusPlus line) (sym l) h) ∙ ap (λ st. run st to) (if_true _ _ c)
takes_step_behind false from to d l frames part h c =
    goes_on_at _ from to d frames part (subst (λ line. slot frames ≤ gives w.MinusMinus line) (sym l) h) ∙ ap (λ st. run st to) (if_true _ _ c)

pub reads_update_behind : (at : ℕ) (up : Bool) (of : Tree t.expression) → Reads of → Reads (t.Update at up false of)
unfolding Spells
reads_update_behind at up of reads from to d frames fits follow =
    let e : place from ≡ at = here_at at from d.0 in
    let tight : (17 ≤ level of) × (is_bare_new of ≡ false) = target_level of d.1.1.0 in
    let low : 17 ≤ grip of = grips of 17 tight.0 in
    reads from d.1.0 d.1.1.1 frames (omega arith) (step_needs up d.1.0 to d.1.2.1 (reach of) (reaches_base of tight.0 tight.1))
    ∙ takes_step_behind up d.1.0 to d.1.2.1 (on_line d.1.0 d.1.2.0) frames (part_of (place from) of) fits d.1.1.0
    ∙ ap (λ part. run (read part frames) to)
    (ap (λ a. p.update_behind up (part_of a of)) e ∙ update_behind_is at up of ∙ ap (λ a. part_of a (t.Update at up false of)) (sym e))

-- Operators before their operand.

prefixed : (operator : Prefix) (of : Tree t.expression) → Reads of → 15 ≤ level of → (from mid to : Tokens) → Spells of mid to → (frames : Frames) → Follow 15 to →
    run (operand_due frames) from ≡ run (operand_due (f.Expression (x.Prefix operator (place from)) ∷ frames)) mid →
    run (operand_due frames) from ≡ run (read (p.prefix_form operator (place from) (part_of (place mid) of)) frames) to
prefixed operator of reads h from mid to d frames follow begun =
    let frame : Frame = f.Expression (x.Prefix operator (place from)) in
    let part : Part = part_of (place mid) of in
    begun
    ∙ reads mid to d (frame ∷ frames) (grips of 15 h) (follow_least 15 (reach of) to (reaches of 15 h (omega arith)) follow)
    ∙ closes frame frames part (p.prefix_form operator (place from) part) 15 to follow
    (λ word line n. let low : gives word line ≤ 13 = gives_product word line n in omega arith)
    (λ again token n. refl)

takes_unary : (operator : UnaryOperator) (from to : Tokens) → the (unary_sign operator) from to → (frames : Frames) → slot frames ≤ 15 →
    run (operand_due frames) from ≡ run (operand_due (f.Expression (x.Prefix (prefix.Unary operator) (place from)) ∷ frames)) to
unfolding word
takes_unary u.Not from to d frames h = takes _ from to d (operand_due frames) ∙ ap (λ st. run st to) (if_true _ _ (le-leb _ _ h))
takes_unary u.Negate from to d frames h = takes _ from to d (operand_due frames) ∙ ap (λ st. run st to) (if_true _ _ (le-leb _ _ h))
takes_unary u.Plus from to d frames h = takes _ from to d (operand_due frames) ∙ ap (λ st. run st to) (if_true _ _ (le-leb _ _ h))
takes_unary u.BitNot from to d frames h = takes _ from to d (operand_due frames) ∙ ap (λ st. run st to) (if_true _ _ (le-leb _ _ h))

pub reads_unary : (operator : UnaryOperator) (of : Tree t.expression) → Reads of → Reads (t.Unary operator of)
unfolding Spells
reads_unary operator of reads from to d frames fits follow =
    prefixed (prefix.Unary operator) of reads d.2.0 from d.0 to d.2.1 frames follow (takes_unary operator from d.0 d.1 frames fits)
    ∙ ap (λ part. run (read part frames) to) (unary_is operator (place from) (place d.0) of)

pub reads_typeof : (of : Tree t.expression) → Reads of → Reads (t.Typeof of)
unfolding Spells word
reads_typeof of reads from to d frames fits follow =
    prefixed prefix.Typeof of reads d.2.0 from d.0 to d.2.1 frames follow (takes _ from d.0 d.1 (operand_due frames) ∙ ap (λ st. run st d.0) (if_true _ _ (le-leb _ _ fits)))
    ∙ ap (λ part. run (read part frames) to) (typeof_is (place from) (place d.0) of)

pub reads_void : (of : Tree t.expression) → Reads of → Reads (t.Void of)
unfolding Spells word
reads_void of reads from to d frames fits follow =
    prefixed prefix.Void of reads d.2.0 from d.0 to d.2.1 frames follow (takes _ from d.0 d.1 (operand_due frames) ∙ ap (λ st. run st d.0) (if_true _ _ (le-leb _ _ fits)))
    ∙ ap (λ part. run (read part frames) to) (void_is (place from) (place d.0) of)

pub reads_delete : (at : ℕ) (of : Tree t.expression) → Reads of → Reads (t.Delete at of)
unfolding Spells word
reads_delete at of reads from to d frames fits follow =
    let e : place from ≡ at = here_at at from d.0 in
    prefixed prefix.Delete of reads d.1.2.0 from d.1.0 to d.1.2.1 frames follow (takes _ from d.1.0 d.1.1 (operand_due frames) ∙ ap (λ st. run st d.1.0) (if_true _ _ (le-leb _ _ fits)))
    ∙ ap (λ part. run (read part frames) to)
    (ap (λ a. p.prefix_form prefix.Delete a (part_of (place d.1.0) of)) e ∙ delete_is at (place d.1.0) of ∙ ap (λ a. part_of a (t.Delete at of)) (sym e))
