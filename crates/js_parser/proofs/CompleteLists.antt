-- The tokens of lists of expressions are read as them: arrays, arguments and templates.
use Rattle.std.proofs.Common.{◌≡◌, ◌∙◌, sym, ap, subst, refl, ℕ, ◌≤◌, Bool, true, false, List, [], ◌∷◌, ◌++◌, arith, zero-le, ◌⊎◌, inl, inr}
use Rattle.std.specs.Prelude.{nat_le}
use Rattle.std.proofs.lemmas.Bool.{leb-true, and_parts}
use Rattle.std.proofs.lemmas.List.{append_assoc}
use Rattle.es_model.specs.declared.token.TokenKind.{TokenKind}
use Rattle.es_model.specs.Tree as t
use Rattle.es_model.specs.Tree.{Tree, Text}
use Rattle.es_model.specs.Readings.{Tokens, One, the, word}
use Rattle.es_model.specs.Levels.{level}
use Rattle.es_model.specs.Spelling.{Spells, separated, pieces, are_elements}
use Rattle.parser_forms.specs.declared.parts.Part.{Part}
use Rattle.js_parser.specs.Frame.{Frame}
use Rattle.js_parser.specs.Frame as f
use Rattle.js_parser.specs.Callee.{Callee}
use Rattle.js_parser.specs.Callee as callee
use Rattle.js_parser.specs.ExpressionFrame as x
use Rattle.js_parser.specs.ExpressionDue as xd
use Rattle.js_parser.specs.Words.{word_of}
use Rattle.parser_forms.specs.Kept.{Sorted, and_then, none, followed}
use Rattle.js_parser.specs.Cut.{cut}
use Rattle.js_parser.specs.Tables.{slot, slot_of}
use Rattle.js_parser.specs.State.{Frames, State, operand_due, read, expression_part}
use Rattle.js_parser.specs.Ends.{called}
use Rattle.js_parser.specs.MemberSteps.{super_arguments}
use Rattle.parser_forms.specs.Parts as p
use Rattle.js_parser.specs.Machine.{run, step}
use Rattle.js_parser.proofs.Laws.{cut_none, cut_and_then}
use Rattle.js_parser.proofs.CompleteBase.{takes, here_at, follows, place, line, needs, Follow, Reads, Each, appended, appended_none, grip, reach, grips, grips_one, grips_callee, reaches, reaches_base, follow_least, if_true, goes_on_at}
use Rattle.js_parser.proofs.CompleteOperands.{is_base_of, is_callee_of}
use Rattle.js_parser.proofs.FormLaws.{array_is, call_is, super_call_is, new_call_is, template_is}
use Rattle.js_parser.specs.Summary.{part_of}

-- A list whose elements stand in one open form, and its end, which stands behind an element, or in its place.
record ListFrame : Type 0 where
  frame : Sorted (t.list t.expression) → Frame
  frames : Frames
  end : Sorted (t.list t.expression) → State
  closing : TokenKind
  element : (list : Sorted (t.list t.expression)) → slot_of (frame list) ≡ 2
  next : (list : Sorted (t.list t.expression)) (part : Part) (at : ℕ) (line_before : Bool) →
      step (read part (frame list ∷ frames)) (record { kind = word ","; at = at; line_before = line_before }) ≡ operand_due (frame (and_then list part.of) ∷ frames)
  behind : (list : Sorted (t.list t.expression)) (part : Part) (at : ℕ) (line_before : Bool) →
      step (read part (frame list ∷ frames)) (record { kind = closing; at = at; line_before = line_before }) ≡ end (and_then list part.of)
  instead : (list : Sorted (t.list t.expression)) (at : ℕ) (line_before : Bool) →
      step (operand_due (frame list ∷ frames)) (record { kind = closing; at = at; line_before = line_before }) ≡ end list
  ends : (line_before : Bool) → needs (word_of closing) line_before ≤ 0

-- one element
reads_element : (one : ListFrame) (e : Tree t.expression) → Reads e → 2 ≤ level e → (sofar : Tree (t.list t.expression)) (from to : Tokens) → Spells e from to → Follow 2 to →
    run (operand_due (one.frame (cut sofar) ∷ one.frames)) from ≡ run (read (part_of (place from) e) (one.frame (cut sofar) ∷ one.frames)) to
reads_element one e reads h sofar from to d follow =
    reads from to d (one.frame (cut sofar) ∷ one.frames) (subst (λ n. n ≤ grip e) (sym (one.element (cut sofar))) (grips e 2 h)) (follow_least 2 (reach e) to (reaches e 2 h (omega arith)) follow)

comma_behind : (one : ListFrame) (e : Tree t.expression) (sofar : Tree (t.list t.expression)) (at : ℕ) (from to : Tokens) → One (λ token. token.kind ≡ word ",") from to →
    run (read (part_of at e) (one.frame (cut sofar) ∷ one.frames)) from ≡ run (operand_due (one.frame (cut (followed sofar e)) ∷ one.frames)) to
comma_behind one e sofar at from to d =
    takes _ from to d (read (part_of at e) (one.frame (cut sofar) ∷ one.frames))
    ∙ ap (λ st. run st to) (one.next (cut sofar) (part_of at e) (place from) (line from))
    ∙ ap (λ list. run (operand_due (one.frame list ∷ one.frames)) to) (cut_and_then sofar e)

end_behind : (one : ListFrame) (e : Tree t.expression) (sofar : Tree (t.list t.expression)) (at : ℕ) (from to : Tokens) → One (λ token. token.kind ≡ one.closing) from to →
    run (read (part_of at e) (one.frame (cut sofar) ∷ one.frames)) from ≡ run (one.end (cut (followed sofar e))) to
end_behind one e sofar at from to d =
    takes _ from to d (read (part_of at e) (one.frame (cut sofar) ∷ one.frames))
    ∙ ap (λ st. run st to) (one.behind (cut sofar) (part_of at e) (place from) (line from))
    ∙ ap (λ list. run (one.end list) to) (cut_and_then sofar e)

end_instead : (one : ListFrame) (sofar : Tree (t.list t.expression)) (from to : Tokens) → One (λ token. token.kind ≡ one.closing) from to →
    run (operand_due (one.frame (cut sofar) ∷ one.frames)) from ≡ run (one.end (cut sofar)) to
end_instead one sofar from to d =
    takes _ from to d (operand_due (one.frame (cut sofar) ∷ one.frames)) ∙ ap (λ st. run st to) (one.instead (cut sofar) (place from) (line from))

follows_comma : (from to : Tokens) → One (λ token. token.kind ≡ word ",") from to → Follow 2 from
unfolding word
follows_comma from to d = follows _ from to d 2 (λ line. omega arith)

follows_end : (one : ListFrame) (from to : Tokens) → One (λ token. token.kind ≡ one.closing) from to → Follow 2 from
follows_end one from to d = follows _ from to d 2 (λ line_before. low line_before (one.ends line_before))
  where
    low : (line_before : Bool) → needs (word_of one.closing) line_before ≤ 0 → needs (word_of one.closing) line_before ≤ 2
    low line_before h = omega arith

-- elements with commas between, and maybe one behind the last
reads_separated : (one : ListFrame) (list : Tree (t.list t.expression)) → Each Reads list → are_elements list ≡ true → (sofar : Tree (t.list t.expression)) (from mid to : Tokens) →
    separated (Spells list) from mid → One (λ token. token.kind ≡ one.closing) mid to →
    run (operand_due (one.frame (cut sofar) ∷ one.frames)) from ≡ run (one.end (cut (appended sofar list))) to
unfolding Spells
reads_separated one t.none reads h sofar from mid to d c =
    ap (run (operand_due (one.frame (cut sofar) ∷ one.frames))) d ∙ end_instead one sofar mid to c
reads_separated one (t.more e t.none) reads h sofar from mid to d c = by d.2
  where
    level_e : 2 ≤ level e
    level_e = leb-true _ _ (and_parts _ _ h).0

    by : (d.0 ≡ mid) ⊎ the "," d.0 mid → run (operand_due (one.frame (cut sofar) ∷ one.frames)) from ≡ run (one.end (cut (followed sofar e))) to
    by (inl same) =
        reads_element one e reads.0 level_e sofar from d.0 d.1 (subst (Follow 2) (sym same) (follows_end one mid to c))
        ∙ ap (run (read (part_of (place from) e) (one.frame (cut sofar) ∷ one.frames))) same
        ∙ end_behind one e sofar (place from) mid to c
    by (inr comma) =
        reads_element one e reads.0 level_e sofar from d.0 d.1 (follows_comma d.0 mid comma)
        ∙ comma_behind one e sofar (place from) d.0 mid comma
        ∙ end_instead one (followed sofar e) mid to c
reads_separated one (t.more e (t.more other rest)) reads h sofar from mid to d c =
    let h_parts : (nat_le 2 (level e) ≡ true) × (are_elements (t.more other rest) ≡ true) = and_parts _ _ h in
    reads_element one e reads.0 (leb-true _ _ h_parts.0) sofar from d.0 d.1 (follows_comma d.0 d.2.0 d.2.1)
    ∙ comma_behind one e sofar (place from) d.0 d.2.0 d.2.1
    ∙ reads_separated one (t.more other rest) reads.1 h_parts.1 (followed sofar e) d.2.0 mid to d.2.2 c

pub reads_array : (items : Tree (t.list t.expression)) → Each Reads items → Reads (t.Array items)
unfolding Spells word
reads_array items reads from to d frames fits follow =
    takes _ from d.0 d.1 (operand_due frames)
    ∙ ap (λ list. run (operand_due (f.Expression (x.Array (place from) list) ∷ frames)) d.0) cut_none
    ∙ reads_separated list items reads d.2.1.0 t.none d.0 d.2.0 to d.2.1.1 d.2.2
    ∙ ap (λ part. run (read part frames) to) (ap (λ list. p.array (place from) (cut list)) (appended_none items) ∙ array_is (place from) items)
  where
    list : ListFrame
    list = record { frame = λ list. f.Expression (x.Array (place from) list); frames = frames; end = λ list. read (p.array (place from) list) frames; closing = word "]"; element = λ list. refl; next = λ list part at line_before. refl; behind = λ list part at line_before. refl; instead = λ list at line_before. refl; ends = λ line_before. zero-le }

-- Arguments.

argument_frame : Callee → Frames → ListFrame
unfolding word
argument_frame of frames =
    record { frame = λ list. f.Expression (x.Arguments of list); frames = frames; end = λ list. read (called of list) frames; closing = word ")"; element = λ list. refl; next = λ list part at line_before. refl; behind = λ list part at line_before. refl; instead = λ list at line_before. refl; ends = λ line_before. zero-le }

reads_arguments : (of : Callee) (arguments : Tree (t.list t.expression)) → Each Reads arguments → are_elements arguments ≡ true → (frames : Frames) (from mid to : Tokens) →
    separated (Spells arguments) from mid → the ")" mid to →
    run (operand_due (f.Expression (x.Arguments of none) ∷ frames)) from ≡ run (read (called of (cut arguments)) frames) to
unfolding argument_frame word
reads_arguments of arguments reads h frames from mid to d c =
    ap (λ list. run (operand_due (f.Expression (x.Arguments of list) ∷ frames)) from) cut_none
    ∙ reads_separated (argument_frame of frames) arguments reads h t.none from mid to d c
    ∙ ap (λ list. run (read (called of (cut list)) frames) to) (appended_none arguments)

pub reads_call : (of : Tree t.expression) (arguments : Tree (t.list t.expression)) → Reads of → Each Reads arguments → Reads (t.Call of arguments)
unfolding Spells word
reads_call of arguments reads reads_all from to d frames fits follow =
    let part : Part = part_of (place from) of in
    let low : 17 ≤ grip of = grips of 17 d.1.0.0 in
    reads from d.0 d.1.1 frames (omega arith) (follows _ d.0 d.2.0 d.2.1 (reach of) (λ line. reaches_base of d.1.0.0 d.1.0.1))
    ∙ goes_on_at _ d.0 d.2.0 d.2.1 frames part fits
    ∙ ap (λ st. run st d.2.0) (if_true _ _ (is_base_of (place from) of d.1.0.0 d.1.0.1))
    ∙ reads_arguments (callee.Call part) arguments reads_all d.2.2.1.0 frames d.2.0 d.2.2.0 to d.2.2.1.1 d.2.2.2
    ∙ ap (λ part. run (read part frames) to) (call_is (place from) of arguments)

pub reads_new_call : (of : Tree t.expression) (arguments : Tree (t.list t.expression)) → Reads of → Each Reads arguments → Reads (t.New of (t.present arguments))
unfolding Spells word
reads_new_call of arguments reads reads_all from to d frames fits follow =
    let frame : Frame = f.Expression (x.New (place from)) in
    let part : Part = part_of (place d.0) of in
    takes _ from d.0 d.1 (operand_due frames)
    ∙ reads d.0 d.2.0 d.2.1.1.1 (frame ∷ frames) (grips_callee of d.2.1.1.0.0 d.2.1.1.0.1) (follows _ d.2.0 d.2.2.0 d.2.2.1 (reach of) (λ line. reaches_base of d.2.1.1.0.0 d.2.1.0))
    ∙ takes _ d.2.0 d.2.2.0 d.2.2.1 (read part (frame ∷ frames))
    ∙ ap (λ st. run st d.2.2.0) (if_true _ _ (is_callee_of (place d.0) of d.2.1.1.0.0 d.2.1.1.0.1) ∙ if_true _ _ (is_base_of (place d.0) of d.2.1.1.0.0 d.2.1.0))
    ∙ reads_arguments (callee.New (place from) part) arguments reads_all d.2.2.2.1.0 frames d.2.2.0 d.2.2.2.0 to d.2.2.2.1.1 d.2.2.2.2
    ∙ ap (λ part. run (read part frames) to) (new_call_is (place from) (place d.0) of arguments)

-- where there is no `new`, `super` may be called
super_called : (frames : Frames) (at : ℕ) → slot frames ≤ 17 → super_arguments frames at ≡ operand_due (f.Expression (x.Arguments (callee.Super at) none) ∷ frames)
super_called [] at h = refl
super_called (f.Expression (x.New place) ∷ frames) at h = absurd (omega arith)
super_called (_ ∷ frames) at h = refl

pub reads_super_call : (at : ℕ) (arguments : Tree (t.list t.expression)) → Each Reads arguments → Reads (t.SuperCall at arguments)
unfolding Spells word
reads_super_call at arguments reads from to d frames fits follow =
    let e : place from ≡ at = here_at at from d.0 in
    takes _ from d.1.0 d.1.1 (operand_due frames)
    ∙ takes _ d.1.0 d.1.2.0 d.1.2.1 (expression_part (xd.Super (place from)) frames)
    ∙ ap (λ st. run st d.1.2.0) (super_called frames (place from) fits)
    ∙ reads_arguments (callee.Super (place from)) arguments reads d.1.2.2.1.0 frames d.1.2.0 d.1.2.2.0 to d.1.2.2.1.1 d.1.2.2.2
    ∙ ap (λ part. run (read part frames) to) (ap (λ a. p.super_call a (cut arguments)) e ∙ super_call_is at arguments ∙ ap (λ a. part_of a (t.SuperCall at arguments)) (sym e))

-- Templates.

piece_follows : (texts : List Text) (values : Tree (t.list t.expression)) (from to : Tokens) → pieces false texts (Spells values) from to → (n : ℕ) → Follow n from
unfolding Spells
piece_follows [] values from to d n = absurd d
piece_follows (text ∷ []) t.none from to d n = follows _ from to d n (λ line. zero-le)
piece_follows (text ∷ other ∷ texts) t.none from to d n = absurd d
piece_follows (text ∷ texts) (t.more value values) from to d n = follows _ from d.0 d.1 n (λ line. zero-le)

-- behind a value: the pieces and values that are left
reads_pieces : (texts : List Text) (values : Tree (t.list t.expression)) → Each Reads values → (from to : Tokens) → pieces false texts (Spells values) from to →
    (e : Tree t.expression) (place_of at : ℕ) (before : List Text) (sofar : Tree (t.list t.expression)) (frames : Frames) →
    run (read (part_of place_of e) (f.Expression (x.Template at before (cut sofar)) ∷ frames)) from ≡ run (read (p.template at (before ++ texts) (cut (appended (followed sofar e) values))) frames) to
unfolding Spells
reads_pieces [] values reads from to d e place_of at before sofar frames = absurd d
reads_pieces (text ∷ []) t.none reads from to d e place_of at before sofar frames =
    takes _ from to d (read (part_of place_of e) (f.Expression (x.Template at before (cut sofar)) ∷ frames))
    ∙ ap (λ list. run (read (p.template at (before ++ text ∷ []) list) frames) to) (cut_and_then sofar e)
reads_pieces (text ∷ other ∷ texts) t.none reads from to d e place_of at before sofar frames = absurd d
reads_pieces (text ∷ texts) (t.more value values) reads from to d e place_of at before sofar frames =
    takes _ from d.0 d.1 (read (part_of place_of e) (f.Expression (x.Template at before (cut sofar)) ∷ frames))
    ∙ ap (λ list. run (operand_due (f.Expression (x.Template at (before ++ text ∷ []) list) ∷ frames)) d.0) (cut_and_then sofar e)
    ∙ reads.0 d.0 d.2.0 d.2.1 (f.Expression (x.Template at (before ++ text ∷ []) (cut (followed sofar e))) ∷ frames) (grips_one value) (piece_follows texts values d.2.0 to d.2.2 (reach value))
    ∙ reads_pieces texts values reads.1 d.2.0 to d.2.2 value (place d.0) at (before ++ text ∷ []) (followed sofar e) frames
    ∙ ap (λ list. run (read (p.template at list (cut (appended (followed (followed sofar e) value) values))) frames) to) (append_assoc before (text ∷ []) texts)

pub reads_template : (texts : List Text) (values : Tree (t.list t.expression)) → Each Reads values → Reads (t.Template texts values)
unfolding Spells
reads_template [] values reads from to d frames fits follow = absurd d
reads_template (text ∷ []) t.none reads from to d frames fits follow =
    takes _ from to d (operand_due frames)
    ∙ ap (λ list. run (read (p.template (place from) (text ∷ []) list) frames) to) cut_none
    ∙ ap (λ part. run (read part frames) to) (template_is (place from) (text ∷ []) t.none)
reads_template (text ∷ other ∷ texts) t.none reads from to d frames fits follow = absurd d
reads_template (text ∷ texts) (t.more value values) reads from to d frames fits follow =
    takes _ from d.0 d.1 (operand_due frames)
    ∙ ap (λ list. run (operand_due (f.Expression (x.Template (place from) (text ∷ []) list) ∷ frames)) d.0) cut_none
    ∙ reads.0 d.0 d.2.0 d.2.1 (f.Expression (x.Template (place from) (text ∷ []) (cut t.none)) ∷ frames) (grips_one value) (piece_follows texts values d.2.0 to d.2.2 (reach value))
    ∙ reads_pieces texts values reads.1 d.2.0 to d.2.2 value (place d.0) (place from) (text ∷ []) t.none frames
    ∙ ap (λ list. run (read (p.template (place from) (text ∷ texts) (cut list)) frames) to) (appended_none (t.more value values))
    ∙ ap (λ part. run (read part frames) to) (template_is (place from) (text ∷ texts) (t.more value values))
