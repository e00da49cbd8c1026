-- A token behind an expression: what was taken still stands for the tokens.
use Rattle.std.proofs.Common.{◌≡◌, ◌∙◌, sym, ap, subst, refl, ℕ, ◌≤◌, Bool, true, false, List, [], ◌∷◌, Option, Some, None, arith}
use Rattle.std.specs.Prelude.{nat_le}
use Rattle.std.proofs.lemmas.Bool.{leb-true}
use Prim.Native.String.{String}
use Rattle.es_model.specs.declared.kinds.BinaryOperator.{BinaryOperator}
use Rattle.es_model.specs.declared.kinds.BinaryOperator.TheVariants as binary
use Rattle.es_model.specs.declared.kinds.Semi.{Semi}
use Rattle.es_model.specs.declared.kinds.Semi.TheVariants as semi
use Rattle.es_model.specs.declared.names.Identifier.{Identifier}
use Rattle.es_model.specs.declared.token.Token.{Token}
use Rattle.es_model.specs.declared.token.TokenKind.{TokenKind}
use Rattle.es_model.specs.declared.token.TokenKind.TheVariants as k
use Rattle.es_model.specs.Tree as t
use Rattle.es_model.specs.Tree.{Text}
use Rattle.es_model.specs.Levels.{InObject, right_level, operator_level, assignment_sign}
use Rattle.es_model.specs.Readings as reading
use Rattle.es_model.specs.Readings.{Tokens, word, semicolon}
use Rattle.es_model.specs.Spelling.{assigning, declaring_word}
use Rattle.js_parser.specs.declared.words.Word.{Word}
use Rattle.js_parser.specs.declared.words.Word.TheVariants as w
use Rattle.parser_forms.specs.declared.parts.Part.{Part}
use Rattle.parser_forms.specs.declared.kinds.Infix.{Infix}
use Rattle.parser_forms.specs.declared.kinds.Infix.TheVariants as i
use Rattle.js_parser.specs.Callee.{Callee}
use Rattle.js_parser.specs.Callee as callee
use Rattle.js_parser.specs.Frame.{Frame}
use Rattle.js_parser.specs.Frame as f
use Rattle.js_parser.specs.ExpressionFrame as x
use Rattle.js_parser.specs.MemberFrame as m
use Rattle.js_parser.specs.StatementFrame as s
use Rattle.js_parser.specs.ItemFrame as n
use Rattle.js_parser.specs.declared.frame.DeclareRole.{DeclareRole}
use Rattle.js_parser.specs.declared.frame.DeclareRole.TheVariants as d
use Rattle.js_parser.specs.declared.frame.Opening.{Opening}
use Rattle.js_parser.specs.declared.frame.Opening.TheVariants as o
use Rattle.parser_forms.specs.Kept.{Sorted, none, and_then}
use Rattle.parser_forms.specs.Parts as p
use Rattle.parser_forms.specs.Parts.{infix_level}
use Rattle.js_parser.specs.Tables.{infix_of, assignment_of, gives_other, gives_by, gives, right_of, slot_of, slot, goes_on_in, is_semicolon}
use Rattle.parser_forms.specs.Asks.{is_left_of, is_base, is_new_callee, head_of}
use Rattle.js_parser.specs.State.{Frames, State, fail, operand_due, the_word}
use Rattle.js_parser.specs.Settle.{statement_end, item_end, may, names_end, arrow_where, taken_as, taken_by, taken, arguments_end, items_end, template_end, at_paren, at_bracket, at_colon, at_semicolon, at_brace, object_next, test_end, initialiser_end, ended, new_end, closed, settle}
use Rattle.js_parser.proofs.WordLaws.{Is, kind_is, may_miss_is, IsInfix, IsAssignment, IsSign, infix_is, assignment_is}
use Rattle.js_parser.proofs.SoundStates.{Opened, Holds, Takes, DeclareFits, Fits, Taken, Read, ReadItem, ReadLine, ReadMember, BehindDeclare, TestTaken, lowest_of, lowest}
use Rattle.js_parser.proofs.SoundForms.{read_of, read_none, read_last, read_comma, read_called, read_array, read_paren, read_index, read_super_index, read_pieces_more, read_template, read_update_before, read_update_behind, read_bare_new, read_prefix, read_infix, read_conditional, read_assign, read_arrow}
use Rattle.js_parser.proofs.SoundMemberForms.{read_value_member, read_members_last, read_members_comma, read_no_class_members, read_computed_key}
use Rattle.js_parser.proofs.SoundForms.{read_joined_object}
use Rattle.js_parser.proofs.SoundStatementForms.{ReadDeclared, read_value, read_declare, read_head_declare, read_head_value, read_there, read_initialised_comma, read_initialised_last, read_return, read_throw, read_no_statements, read_default_value}
use Rattle.js_parser.proofs.SoundHeads.{read_head}
use Rattle.js_parser.proofs.SoundEnds.{split, put_item_holds, put_holds}
use Rattle.js_parser.proofs.SoundBegins.{lowest_most, called_level, close_item_holds, close_holds}

-- Levels.

binary_right : (operator : BinaryOperator) → (1 ≤ right_level operator) × (right_level operator ≤ 17)
binary_right binary.Add = (omega arith, omega arith)
binary_right binary.Subtract = (omega arith, omega arith)
binary_right binary.Multiply = (omega arith, omega arith)
binary_right binary.Divide = (omega arith, omega arith)
binary_right binary.Remainder = (omega arith, omega arith)
binary_right binary.Power = (omega arith, omega arith)
binary_right _ = (omega arith, omega arith)

right_is : (operator : Infix) → (1 ≤ right_of operator) × (right_of operator ≤ 17)
right_is (i.Binary operator) = binary_right operator
right_is _ = (omega arith, omega arith)

binary_most : (operator : BinaryOperator) → operator_level operator ≤ 17
binary_most binary.Add = omega arith
binary_most _ = omega arith

infix_most : (operator : Infix) → infix_level operator ≤ 17
infix_most (i.Binary operator) = binary_most operator
infix_most _ = omega arith

pub slot_is : (frame : Frame) → 1 ≤ slot_of frame
slot_is (f.Expression (x.Infix operator left)) = (right_is operator).0
slot_is (f.Member (m.Object at members)) = omega arith
slot_is (f.Statement s.Value) = omega arith
slot_is (f.Item n.Export) = omega arith
slot_is _ = omega arith

assigned : (sign : Option String) (token : Token) (now : Tokens) → IsSign sign token.kind → assigning sign (token ∷ now) now
assigned (Some sign) token now e = (e, refl)
assigned None token now e = e

-- A state, where the word is the one that is due.

paren_by : (P : State → Type 0) (token : Token) (one : Word) (st : State) → Is one token.kind → (token.kind ≡ word ")" → P st) → P fail → P (at_paren st one)
paren_by P token w.RightParen st e f g = f e
paren_by P token _ st e f g = g

bracket_by : (P : State → Type 0) (token : Token) (one : Word) (st : State) → Is one token.kind → (token.kind ≡ word "]" → P st) → P fail → P (at_bracket st one)
bracket_by P token w.RightBracket st e f g = f e
bracket_by P token _ st e f g = g

colon_by : (P : State → Type 0) (token : Token) (one : Word) (st : State) → Is one token.kind → (token.kind ≡ word ":" → P st) → P fail → P (at_colon st one)
colon_by P token w.Colon st e f g = f e
colon_by P token _ st e f g = g

semicolon_by : (P : State → Type 0) (token : Token) (one : Word) (st : State) → Is one token.kind → (token.kind ≡ word ";" → P st) → P fail → P (at_semicolon st one)
semicolon_by P token w.Semicolon st e f g = f e
semicolon_by P token _ st e f g = g

brace_by : (P : State → Type 0) (token : Token) (one : Word) (st : State) → Is one token.kind → (token.kind ≡ word "{" → P st) → P fail → P (at_brace st one)
brace_by P token w.LeftBrace st e f g = f e
brace_by P token _ st e f g = g

module _ (whole : Tokens) where
  -- Statements and items with a semicolon that may be missing.

  pub statement_end_holds : (declares : Bool) (frames : Frames) (line : Semi → Sorted t.statement) (may_be : Bool) (test : Token → Bool) (token : Token) (from now : Tokens) (one : Word) → Is one token.kind →
      Takes frames declares → Opened whole frames from → (is_semicolon one ≡ false → may_be ≡ true → test token ≡ true) →
      ((mark : Semi) (to : Tokens) → semicolon test mark (token ∷ now) to → ReadLine declares false (line mark) from to) → Holds whole (statement_end frames line may_be token one) now
  statement_end_holds declares frames line may_be test token from now w.Semicolon e takes h m r = put_holds whole declares frames (line semi.Written) from now takes h (r semi.Written now (e, refl))
  statement_end_holds declares frames line may_be test token from now _ e takes h m r =
      split (λ st. Holds whole st now) may_be _ _ (λ q. close_holds whole declares false frames (line semi.Missing) token from now takes h (r semi.Missing (token ∷ now) (refl, m refl q)) refl) (λ q. tt)

  pub item_end_holds : (frames : Frames) (item : Semi → Sorted t.item) (may_be : Bool) (test : Token → Bool) (token : Token) (from now : Tokens) (one : Word) → Is one token.kind → Opened whole frames from →
      (may_be ≡ true → test token ≡ true) → ((mark : Semi) (to : Tokens) → semicolon test mark (token ∷ now) to → ReadItem (item mark) from to) → Holds whole (item_end frames item may_be token one) now
  item_end_holds frames item may_be test token from now w.Semicolon e h m r = put_item_holds whole frames (item semi.Written) from now h (r semi.Written now (e, refl))
  item_end_holds frames item may_be test token from now _ e h m r =
      split (λ st. Holds whole st now) may_be _ _ (λ q. close_item_holds whole frames (item semi.Missing) token from now h (r semi.Missing (token ∷ now) (refl, m q))) (λ q. tt)

  pub names_end_holds : (frames : Frames) (constant : Bool) (names : Sorted (t.list t.declarator)) (use_of : DeclareRole) (token : Token) (from a now : Tokens) → DeclareFits use_of frames → Opened whole frames from →
      BehindDeclare use_of (declaring_word constant) from a → ReadDeclared constant names a (token ∷ now) → Holds whole (names_end frames constant names use_of token) now
  names_end_holds frames constant names d.Statement token from a now fits h before r =
      statement_end_holds true frames (p.declare constant names) (may token) reading.may_miss token from now (the_word token) (kind_is token.kind) fits h (λ e q. sym (may_miss_is token) ∙ q)
      (λ mark to c. read_declare constant names mark from a (token ∷ now) to before r c)
  names_end_holds frames constant names d.For token from a now fits h (b, before, begins) r =
      semicolon_by (λ st. Holds whole st now) token (the_word token) _ (kind_is token.kind)
      (λ e. (from, h, fits, (token ∷ now, (b, before, read_head_declare constant names b a (token ∷ now) begins r), (e, refl)))) tt

  -- The expression goes on.

  arrow_where_holds : (frames : Frames) (part : Part) (token : Token) (from now : Tokens) (names : Option (List Identifier)) → Opened whole frames from → lowest frames ≤ 2 → Read part from (token ∷ now) → head_of part.heading ≡ names →
      token.line_before ≡ false → token.kind ≡ word "=>" → Holds whole (arrow_where frames part.at names) now
  arrow_where_holds frames part token from now (Some list) h low r q line e =
      let (place, names) = read_head part list from (token ∷ now) r q in (from, h, low, (place, (token ∷ now, names, (line, (e, refl)))))
  arrow_where_holds frames part token from now None h low r q line e = tt

  taken_as_holds : (frames : Frames) (part : Part) (token : Token) (from now : Tokens) (one : Word) (line : Bool) → Opened whole frames from → lowest frames ≤ 17 → Read part from (token ∷ now) → Is one token.kind → token.line_before ≡ line →
      1 ≤ slot frames → slot frames ≤ gives_other one line → lowest frames ≤ slot frames → Holds whole (taken_as part frames one) now
  taken_as_holds frames part token from now w.Arrow true h low r e q pos most least = absurd (omega (arith, pos, most))
  taken_as_holds frames part token from now w.Arrow false h low r e q pos most least = arrow_where_holds frames part token from now (head_of part.heading) h (omega (arith, most, least)) r refl q e
  taken_as_holds frames part token from now w.Question line h low r e q pos most least =
      split (λ st. Holds whole st now) (nat_le 4 part.level) _ _ (λ c. ((from, h, omega (arith, most, least), (token ∷ now, (leb-true _ _ c, r), (e, refl))), omega arith)) (λ c. tt)
  taken_as_holds frames part token from now w.PlusPlus true h low r e q pos most least = absurd (omega (arith, pos, most))
  taken_as_holds frames part token from now w.PlusPlus false h low r e q pos most least =
      split (λ st. Holds whole st now) part.is_target _ _ (λ c. (from, h, low, omega (arith, most, least), read_update_behind true part from (token ∷ now) now r c q (e, refl))) (λ c. tt)
  taken_as_holds frames part token from now w.MinusMinus true h low r e q pos most least = absurd (omega (arith, pos, most))
  taken_as_holds frames part token from now w.MinusMinus false h low r e q pos most least =
      split (λ st. Holds whole st now) part.is_target _ _ (λ c. (from, h, low, omega (arith, most, least), read_update_behind false part from (token ∷ now) now r c q (e, refl))) (λ c. tt)
  taken_as_holds frames part token from now w.Point line h low r e q pos most least = split (λ st. Holds whole st now) (is_base part) _ _ (λ c. (from, h, low, (token ∷ now, (c, r), (e, refl)))) (λ c. tt)
  taken_as_holds frames part token from now w.LeftBracket line h low r e q pos most least =
      split (λ st. Holds whole st now) (is_base part) _ _ (λ c. ((from, h, low, (token ∷ now, (c, r), (e, refl))), omega arith)) (λ c. tt)
  taken_as_holds frames part token from now w.LeftParen line h low r e q pos most least =
      split (λ st. Holds whole st now) (is_base part) _ _ (λ c. ((from, h, low, (now, (token ∷ now, (c, r), (e, refl)), read_none now)), omega arith)) (λ c. tt)
  taken_as_holds frames part token from now _ line h low r e q pos most least = tt

  taken_by_holds : (frames : Frames) (part : Part) (token : Token) (from now : Tokens) (infix_one : Option Infix) (assignment : Option (Option BinaryOperator)) (one : Word) → Opened whole frames from → lowest frames ≤ 17 →
      Read part from (token ∷ now) → IsInfix infix_one token.kind → IsAssignment assignment token.kind → Is one token.kind → 1 ≤ slot frames → slot frames ≤ gives_by infix_one assignment one token.line_before → lowest frames ≤ slot frames →
      Holds whole (taken_by part frames infix_one assignment one) now
  taken_by_holds frames part token from now (Some operator) assignment one h low r e a c pos most least =
      split (λ st. Holds whole st now) (is_left_of operator part) _ _ (λ q. ((from, h, omega (arith, most, least), (token ∷ now, (q, r), (e, refl))), (right_is operator).1)) (λ q. tt)
  taken_by_holds frames part token from now None (Some operator) one h low r e a c pos most least =
      split (λ st. Holds whole st now) part.is_target _ _
      (λ q. ((from, h, omega (arith, most, least), (token ∷ now, (q, r), assigned (assignment_sign operator) token now a)), omega arith)) (λ q. tt)
  taken_by_holds frames part token from now None None one h low r e a c pos most least = taken_as_holds frames part token from now one token.line_before h low r c refl pos most least

  taken_holds : (frames : Frames) (part : Part) (token : Token) (from now : Tokens) → Opened whole frames from → lowest frames ≤ 17 → Read part from (token ∷ now) →
      1 ≤ slot frames → slot frames ≤ gives (the_word token) token.line_before → Holds whole (taken part frames token) now
  taken_holds frames part token from now h low r pos most =
      taken_by_holds frames part token from now (infix_of (the_word token)) (assignment_of (the_word token)) (the_word token) h low r (infix_is token) (assignment_is token) (kind_is token.kind) pos most (lowest_most frames)

  -- A form that waits for the expression ends.

  arguments_end_holds : (frames : Frames) (of : Callee) (list : Sorted (t.list t.expression)) (part : Part) (token : Token) (start from now : Tokens) (one : Word) → Opened whole frames start → lowest frames ≤ 17 →
      Taken (f.Expression (x.Arguments of list)) start from → 2 ≤ part.level → Read part from (token ∷ now) → Is one token.kind → Holds whole (arguments_end frames of (and_then list part.of) one) now
  arguments_end_holds frames of list part token start from now w.RightParen h low (b, (a, before, o), taken) least r e =
      (start, h, low, called_level of (and_then list part.of) (lowest frames) low, read_called of (and_then list part.of) start a b (token ∷ now) now before o (read_last list part b from (token ∷ now) taken r least) (e, refl))
  arguments_end_holds frames of list part token start from now w.Comma h low (b, before, taken) least r e = ((start, h, low, (b, before, read_comma list part b from (token ∷ now) now taken r least (e, refl))), omega arith)
  arguments_end_holds frames of list part token start from now _ h low taken least r e = tt

  items_end_holds : (frames : Frames) (at : ℕ) (list : Sorted (t.list t.expression)) (part : Part) (token : Token) (start from now : Tokens) (one : Word) → Opened whole frames start → lowest frames ≤ 17 →
      Taken (f.Expression (x.Array at list)) start from → 2 ≤ part.level → Read part from (token ∷ now) → Is one token.kind → Holds whole (items_end frames at (and_then list part.of) one) now
  items_end_holds frames at list part token start from now w.RightBracket h low (a, before, taken) least r e =
      (start, h, low, omega (arith, low), read_array at (and_then list part.of) start a (token ∷ now) now before (read_last list part a from (token ∷ now) taken r least) (e, refl))
  items_end_holds frames at list part token start from now w.Comma h low (a, before, taken) least r e = ((start, h, low, (a, before, read_comma list part a from (token ∷ now) now taken r least (e, refl))), omega arith)
  items_end_holds frames at list part token start from now _ h low taken least r e = tt

  template_end_holds : (frames : Frames) (at : ℕ) (texts : List Text) (values : Sorted (t.list t.expression)) (part : Part) (token : Token) (start from now : Tokens) (kind : TokenKind) → Opened whole frames start → lowest frames ≤ 17 →
      Taken (f.Expression (x.Template at texts values)) start from → Read part from (token ∷ now) → token.kind ≡ kind → Holds whole (template_end frames at texts (and_then values part.of) kind) now
  template_end_holds frames at texts values part token start from now (k.Template false true text) h low taken r e =
      (start, h, low, omega (arith, low), read_template at texts values part text start from (token ∷ now) now taken r (e, refl))
  template_end_holds frames at texts values part token start from now (k.Template false false text) h low (place, taken) r e =
      ((start, h, low, (place, read_pieces_more texts values part text start from (token ∷ now) now taken r (e, refl))), omega arith)
  template_end_holds frames at texts values part token start from now _ h low taken r e = tt

  pub object_next_holds : (frames : Frames) (member : Sorted t.member) (token : Token) (from now : Tokens) (one : Word) → Opened whole frames from → ReadMember InObject member from (token ∷ now) → Is one token.kind →
      Holds whole (object_next frames member one) now
  object_next_holds (f.Member (m.Object at members) ∷ frames) member token from now w.Comma (start, opened, fits, (b, before, taken)) r e =
      (now, (start, opened, fits, (b, before, read_members_comma (and_then members member) b (token ∷ now) now (read_members_last members member b from (token ∷ now) taken r) (e, refl))), tt, refl)
  object_next_holds (f.Member (m.Object at members) ∷ frames) member token from now w.RightBrace (start, opened, fits, (b, before, taken)) r e =
      (start, opened, fits, omega (arith, fits), read_joined_object at (and_then members member) start b (token ∷ now) now before (read_members_last members member b from (token ∷ now) taken r) (e, refl))
  object_next_holds _ member token from now _ h r e = tt

  test_end_holds : (frames : Frames) (opening : Opening) (part : Part) (from now : Tokens) → Takes frames false → Opened whole frames from → TestTaken opening part.of from now → Holds whole (test_end frames opening part) now
  test_end_holds frames o.If part from now takes h taken = ((from, h, takes, taken), refl)
  test_end_holds frames o.While part from now takes h taken = ((from, h, takes, taken), refl)
  test_end_holds frames o.Switch part from now takes h taken = (from, h, takes, taken)

  initialiser_end_holds : (frames : Frames) (constant : Bool) (names : Sorted (t.list t.declarator)) (use_of : DeclareRole) (own : Identifier) (part : Part) (token : Token) (start from now : Tokens) (one : Word) → DeclareFits use_of frames →
      Opened whole frames start → Taken (f.Statement (s.Initialiser constant names use_of own)) start from → 2 ≤ part.level → Read part from (token ∷ now) → Is one token.kind →
      Holds whole (initialiser_end frames constant (and_then names (p.declarator own (Some part.of))) use_of token one) now
  initialiser_end_holds frames constant names use_of own part token start from now w.Comma fits h (c, (b, (a, before, taken), named), sign) least r e =
      (start, h, fits, (a, before, read_initialised_comma constant own names part a b c from (token ∷ now) now taken named sign r least (e, refl)))
  initialiser_end_holds frames constant names use_of own part token start from now _ fits h (c, (b, (a, before, taken), named), sign) least r e =
      names_end_holds frames constant (and_then names (p.declarator own (Some part.of))) use_of token start a now fits h before (read_initialised_last constant own names part a b c from (token ∷ now) taken named sign r least)

  ended_holds : (frame : Frame) (frames : Frames) (part : Part) (token : Token) (start from now : Tokens) → Opened whole frames start → Fits frame frames → Taken frame start from → lowest_of frame ≤ part.level → Read part from (token ∷ now) →
      Holds whole (ended frame frames part token) now
  ended_holds (f.Expression (x.Paren at)) frames part token start from now h fits taken low r =
      paren_by (λ st. Holds whole st now) token (the_word token) _ (kind_is token.kind) (λ e. (start, h, fits, omega (arith, fits), read_paren at part start from (token ∷ now) now taken r (e, refl))) tt
  ended_holds (f.Expression (x.Yes test)) frames part token start from now h fits taken low r =
      colon_by (λ st. Holds whole st now) token (the_word token) _ (kind_is token.kind) (λ e. ((start, h, fits, (token ∷ now, (from, taken, (low, r)), (e, refl))), omega arith)) tt
  ended_holds (f.Expression (x.Arguments of list)) frames part token start from now h fits taken low r = arguments_end_holds frames of list part token start from now (the_word token) h fits taken low r (kind_is token.kind)
  ended_holds (f.Expression (x.Array at items)) frames part token start from now h fits taken low r = items_end_holds frames at items part token start from now (the_word token) h fits taken low r (kind_is token.kind)
  ended_holds (f.Expression (x.Index of)) frames part token start from now h fits (a, before, sign) low r =
      bracket_by (λ st. Holds whole st now) token (the_word token) _ (kind_is token.kind) (λ e. (start, h, fits, fits, read_index of part start a from (token ∷ now) now before sign r (e, refl))) tt
  ended_holds (f.Expression (x.SuperIndex at)) frames part token start from now h fits (a, before, sign) low r =
      bracket_by (λ st. Holds whole st now) token (the_word token) _ (kind_is token.kind) (λ e. (start, h, fits, fits, read_super_index at part start a from (token ∷ now) now before sign r (e, refl))) tt
  ended_holds (f.Expression (x.Template at texts values)) frames part token start from now h fits taken low r = template_end_holds frames at texts values part token start from now token.kind h fits taken r refl
  ended_holds (f.Member (m.Key at fixed kind)) frames part token start from now h fits (c, (place, (l, static, accessor)), sign) low r =
      bracket_by (λ st. Holds whole st now) token (the_word token) _ (kind_is token.kind)
      (λ e. (start, h, fits, ((place, (l, static, (c, accessor, read_computed_key part c from (token ∷ now) now sign r low (e, refl)))), tt))) tt
  ended_holds (f.Member (m.Value first)) frames part token start from now h fits taken low r =
      object_next_holds frames (p.value_member first.at first.key part) token start now (the_word token) h (read_value_member first part start from (token ∷ now) fits taken r low) (kind_is token.kind)
  ended_holds (f.Member (m.Parent at own stands)) frames part token start from now h fits (a, before, sign) low (tree, q, place, r) =
      brace_by (λ st. Holds whole st now) token (the_word token) _ (kind_is token.kind)
      (λ e. (now, (start, h, fits, (now, (token ∷ now, (a, before, (from, sign, (tree, ap (λ u. u.of) q, subst (λ u. 17 ≤ u.level) (sym q) low, r))), (e, refl)), read_no_class_members true now)), tt, refl)) tt
  ended_holds (f.Statement s.Value) frames part token start from now h fits taken low r =
      statement_end_holds false frames (p.value part.of) (may token) reading.may_miss token start now (the_word token) (kind_is token.kind) fits h (λ e q. sym (may_miss_is token) ∙ q)
      (λ mark to c. read_value part mark start from (token ∷ now) to taken r c)
  ended_holds (f.Statement (s.Initialiser constant names use_of own)) frames part token start from now h fits taken low r =
      initialiser_end_holds frames constant names use_of own part token start from now (the_word token) fits h taken low r (kind_is token.kind)
  ended_holds (f.Statement (s.Test opening)) frames part token start from now h fits taken low r =
      paren_by (λ st. Holds whole st now) token (the_word token) _ (kind_is token.kind) (λ e. test_end_holds frames opening part start now fits h (token ∷ now, (from, taken, read_of part from (token ∷ now) r), (e, refl))) tt
  ended_holds (f.Statement (s.DoTest body)) frames part token start from now h fits taken low r =
      paren_by (λ st. Holds whole st now) token (the_word token) _ (kind_is token.kind) (λ e. (start, h, fits, (token ∷ now, (from, taken, read_of part from (token ∷ now) r), (e, refl)))) tt
  ended_holds (f.Statement s.ForValue) frames part token start from now h fits taken low r =
      semicolon_by (λ st. Holds whole st now) token (the_word token) _ (kind_is token.kind) (λ e. (start, h, fits, (token ∷ now, (from, taken, read_head_value part from (token ∷ now) r), (e, refl)))) tt
  ended_holds (f.Statement (s.ForTest head)) frames part token start from now h fits taken low r =
      semicolon_by (λ st. Holds whole st now) token (the_word token) _ (kind_is token.kind) (λ e. (start, h, fits, (token ∷ now, (from, taken, read_there part from (token ∷ now) r), (e, refl)))) tt
  ended_holds (f.Statement (s.ForStep head test)) frames part token start from now h fits taken low r =
      paren_by (λ st. Holds whole st now) token (the_word token) _ (kind_is token.kind) (λ e. ((start, h, fits, (token ∷ now, (from, taken, read_there part from (token ∷ now) r), (e, refl))), refl)) tt
  ended_holds (f.Statement (s.Return at)) frames part token start from now h fits taken low r =
      statement_end_holds false frames (p.return at (Some part.of)) (may token) reading.may_miss token start now (the_word token) (kind_is token.kind) fits h (λ e q. sym (may_miss_is token) ∙ q)
      (λ mark to c. read_return at part mark start from (token ∷ now) to taken r c)
  ended_holds (f.Statement s.Throw) frames part token start from now h fits taken low r =
      statement_end_holds false frames (p.throw part.of) (may token) reading.may_miss token start now (the_word token) (kind_is token.kind) fits h (λ e q. sym (may_miss_is token) ∙ q)
      (λ mark to c. read_throw part mark start from (token ∷ now) to taken r c)
  ended_holds (f.Statement s.CaseTest) frames part token start from now h fits taken low r =
      colon_by (λ st. Holds whole st now) token (the_word token) _ (kind_is token.kind)
      (λ e. ((start, h, tt, (now, (token ∷ now, (from, taken, read_of part from (token ∷ now) r), (e, refl)), read_no_statements now)), tt)) tt
  ended_holds (f.Item (n.Default at)) frames part token start from now h fits taken low r =
      item_end_holds frames (p.default_value at part.of) (may token) reading.may_miss token start now (the_word token) (kind_is token.kind) h (λ q. sym (may_miss_is token) ∙ q)
      (λ mark to c. read_default_value at part mark start from (token ∷ now) to taken r low c)
  ended_holds _ frames part token start from now h fits taken low r = tt

  new_end_holds : (frames : Frames) (at : ℕ) (part : Part) (token : Token) (start from now : Tokens) (bare : State) (one : Word) → Opened whole frames start → lowest frames ≤ 17 → Taken (f.Expression (x.New at)) start from →
      Read part from (token ∷ now) → is_new_callee part ≡ true → Is one token.kind → Holds whole bare now →
      Holds whole (new_end (operand_due (f.Expression (x.Arguments (callee.New at part) none) ∷ frames)) bare part one) now
  new_end_holds frames at part token start from now bare w.LeftParen h low taken r q e other =
      split (λ st. Holds whole st now) (is_base part) _ _ (λ c. ((start, h, low, (now, (token ∷ now, (from, taken, ((q, c), r)), (e, refl)), read_none now)), omega arith)) (λ c. tt)
  new_end_holds frames at part token start from now bare _ h low taken r q e other = other

  closed_holds : (frame : Frame) (again : Part → State) (frames : Frames) (part : Part) (token : Token) (start from now : Tokens) →
      ((next : Part) → lowest frames ≤ 17 → lowest frames ≤ next.level → Read next start (token ∷ now) → Holds whole (again next) now) →
      Opened whole frames start → Fits frame frames → Taken frame start from → lowest_of frame ≤ part.level → Read part from (token ∷ now) → Holds whole (closed frame again frames part token) now
  closed_holds (f.Expression (x.Infix operator left)) again frames part token start from now ih h fits (a, before, sign) low r =
      let most : infix_level operator ≤ 17 = infix_most operator in
      ih (p.operation operator left part) (omega (arith, fits)) fits (read_infix operator left part start a from (token ∷ now) before sign r low)
  closed_holds (f.Expression (x.Prefix operator at)) again frames part token start from now ih h fits taken low r =
      ih (p.prefix_form operator at part) (omega (arith, fits)) fits (read_prefix operator at part start from (token ∷ now) taken r low)
  closed_holds (f.Expression (x.Update at up)) again frames part token start from now ih h fits taken low r =
      split (λ st. Holds whole st now) part.is_target _ _ (λ q. ih (p.update_before at up part) (omega (arith, fits)) fits (read_update_before at up part start from (token ∷ now) taken r q)) (λ q. tt)
  closed_holds (f.Expression (x.New at)) again frames part token start from now ih h fits taken low r =
      split (λ st. Holds whole st now) (is_new_callee part) _ _
      (λ q. new_end_holds frames at part token start from now (again (p.bare_new at part)) (the_word token) h fits taken r q (kind_is token.kind)
      (ih (p.bare_new at part) fits fits (read_bare_new at part start from (token ∷ now) taken r q))) (λ q. tt)
  closed_holds (f.Expression (x.No test first)) again frames part token start from now ih h fits (c, (b, (a, before, sign), one), colon) low r =
      ih (p.conditional test first part) (omega (arith, fits)) fits (read_conditional test first part start a b c from (token ∷ now) before sign one colon r low)
  closed_holds (f.Expression (x.Assign left operator)) again frames part token start from now ih h fits (a, before, sign) low r =
      ih (p.assign left operator part) (omega (arith, fits)) fits (read_assign left operator part start a from (token ∷ now) before sign r low)
  closed_holds (f.Expression (x.Arrow at list)) again frames part token start from now ih h fits taken low r =
      ih (p.arrow at list part) (omega (arith, fits)) fits (read_arrow at list part start from (token ∷ now) taken r low)
  closed_holds frame again frames part token start from now ih h fits taken low r = ended_holds frame frames part token start from now h fits taken low r

  pub settle_holds : (frames : Frames) (part : Part) (token : Token) (from now : Tokens) → Opened whole frames from → lowest frames ≤ 17 → lowest frames ≤ part.level → Read part from (token ∷ now) → Holds whole (settle frames part token) now
  settle_holds [] part token from now h least low r = tt
  settle_holds (frame ∷ frames) part token from now (start, opened, fits, taken) least low r =
      split (λ st. Holds whole st now) (goes_on_in frame (the_word token) token.line_before) _ _
      (λ q. taken_holds (frame ∷ frames) part token from now (start, opened, fits, taken) least r (slot_is frame) (leb-true _ _ q))
      (λ q. closed_holds frame (λ next. settle frames next token) frames part token start from now (λ next one two read. settle_holds frames next token start now opened one two read) opened fits taken low r)
