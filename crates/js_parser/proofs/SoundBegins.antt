-- Where an operand or a statement is due, and where a statement ended before a token: what was taken still stands for the tokens.
use Rattle.std.proofs.Common.{◌≡◌, ◌∙◌, sym, ap, subst, refl, ℕ, ◌≤◌, Bool, true, false, List, [], ◌∷◌, Option, Some, None, arith, true≢false}
use Rattle.std.specs.Prelude.{◌&&◌, nat_le}
use Rattle.std.proofs.lemmas.Bool.{leb-true}
use Rattle.es_model.specs.declared.names.Identifier.{Identifier}
use Rattle.es_model.specs.declared.token.Token.{Token}
use Rattle.es_model.specs.declared.token.TokenKind.{TokenKind}
use Rattle.es_model.specs.declared.token.TokenKind.TheVariants as k
use Rattle.es_model.specs.Tree as t
use Rattle.es_model.specs.Readings.{Tokens, word, here}
use Rattle.es_model.specs.Spelling.{arrow_names, step}
use Rattle.js_parser.specs.declared.words.Word.{Word}
use Rattle.js_parser.specs.declared.words.Word.TheVariants as w
use Rattle.parser_forms.specs.declared.kinds.Infix.TheVariants as i
use Rattle.parser_forms.specs.declared.kinds.Prefix.{Prefix}
use Rattle.js_parser.specs.Callee.{Callee}
use Rattle.js_parser.specs.Callee as callee
use Rattle.js_parser.specs.Frame.{Frame}
use Rattle.js_parser.specs.Frame as f
use Rattle.js_parser.specs.ExpressionFrame as x
use Rattle.js_parser.specs.StatementFrame as s
use Rattle.js_parser.specs.ItemFrame as n
use Rattle.js_parser.specs.Words.{keyword_word, sign_word, word_of}
use Rattle.parser_forms.specs.Kept.{Sorted, and_then}
use Rattle.parser_forms.specs.Parts as p
use Rattle.js_parser.specs.Tables.{prefix_of, slot_of, slot}
use Rattle.parser_forms.specs.Asks.{list_of}
use Rattle.js_parser.specs.Ends.{called}
use Rattle.js_parser.specs.Begins.{head_where, close_paren, close_bracket, prefixed, updated, operand_word, operand_kind, operand, in_list, in_module, declaration, declared, statement_word, begin, close_item, else_or, while_or_fail, close}
use Rattle.js_parser.specs.State.{Frames, State, fail, statement_due, the_word}
use Rattle.js_parser.proofs.WordLaws.{Is, kind_is, word_is, IsPrefix, prefix_word, begins_no_value, no_value_is}
use Rattle.js_parser.proofs.SoundLists.{names_comma}
use Rattle.js_parser.proofs.SoundStates.{Opened, Holds, Takes, ReadItem, ReadLine, lowest_of, lowest}
use Rattle.js_parser.proofs.SoundForms.{read_this, read_null, read_true, read_false, read_name, read_number, read_string, read_plain_template, read_pieces, read_none, read_elements, read_called, read_array}
use Rattle.js_parser.proofs.SoundMemberForms.{read_no_members}
use Rattle.js_parser.proofs.SoundStatementForms.{read_no_statements, read_statements_more, read_no_names, read_empty, read_inner, read_short_if, read_if, read_while, read_for, read_items_more, read_plain_item, read_exported_item}
use Rattle.js_parser.proofs.SoundHeads.{enclosed_names, read_listed}
use Rattle.js_parser.proofs.SoundEnds.{split, put_holds, braces_end_holds, next_case_holds, module_end_holds}

-- The least level of what a form takes is at most its slot.
lowest_in : (frame : Frame) → lowest_of frame ≤ slot_of frame
lowest_in (f.Expression (x.New at)) = omega arith
lowest_in _ = omega arith

pub lowest_most : (frames : Frames) → lowest frames ≤ slot frames
lowest_most [] = omega arith
lowest_most (frame ∷ frames) = lowest_in frame

pub below : (frames : Frames) (n : ℕ) → nat_le (slot frames) n ≡ true → lowest frames ≤ n
below frames n e = let a : slot frames ≤ n = leb-true _ _ e in let b : lowest frames ≤ slot frames = lowest_most frames in omega arith

pub called_level : (of : Callee) (list : Sorted (t.list t.expression)) (n : ℕ) → n ≤ 17 → n ≤ (called of list).level
called_level (callee.Call part) list n h = h
called_level (callee.New at part) list n h = h
called_level (callee.Super at) list n h = h

-- lists of statements and the module take declarations
takes_in_list : (frames : Frames) → in_list frames ≡ true → Takes frames true
takes_in_list (f.Statement (s.List stands list) ∷ frames) e = tt
takes_in_list (f.Item (n.Module items) ∷ frames) e = tt
takes_in_list _ e = absurd (true≢false (sym e))

abbrev pub is_else : Word → Bool
is_else w.Else = true
is_else _ = false

pub else_or_by : (P : State → Type 0) (token : Token) (one : Word) (first second : State) → the_word token ≡ one → (token.kind ≡ word "else" → P first) → (is_else (the_word token) ≡ false → P second) → P (else_or first second one)
else_or_by P token w.Else first second q f g = f (word_is token w.Else q)
else_or_by P token _ first second q f g = g (ap is_else q)

pub while_by : (P : State → Type 0) (token : Token) (one : Word) (first : State) → Is one token.kind → (token.kind ≡ word "while" → P first) → P fail → P (while_or_fail first one)
while_by P token w.While first e f g = f e
while_by P token _ first e f g = g

not_short : (token : Token) (one : Bool) → token.kind ≡ word "else" → (one && is_else (the_word token)) ≡ false → one ≡ false
unfolding word
not_short token false e c = refl
not_short token true e c = absurd (true≢false (sym (ap (λ u. is_else (word_of u)) e) ∙ c))

module _ (whole : Tokens) where
  -- Operands.

  head_where_holds : (frames : Frames) (at : ℕ) (names : Option (List Identifier)) (from now : Tokens) → Opened whole frames from → ((list : List Identifier) → names ≡ Some list → here at (arrow_names list) from now) →
      Holds whole (head_where frames at names) now
  head_where_holds frames at (Some list) from now h r = split (λ st. Holds whole st now) (nat_le (slot frames) 2) _ _ (λ e. (from, h, below frames 2 e, r list refl)) (λ e. tt)
  head_where_holds frames at None from now h r = tt

  close_paren_holds : (frames : Frames) (token : Token) (now : Tokens) → Opened whole frames (token ∷ now) → token.kind ≡ word ")" → Holds whole (close_paren frames) now
  close_paren_holds (f.Expression (x.Paren at) ∷ frames) token now (from, opened, fits, (place, o)) e =
      head_where_holds frames at (Some []) from now opened (λ list q. subst (λ u. here at (arrow_names u) from now) (some_is q) (place, (token ∷ now, o, (token ∷ now, refl, (e, refl)))))
    where
      some_is : {one other : List Identifier} → Some one ≡ Some other → one ≡ other
      some_is {one} e = ap pick e
        where
          pick : Option (List Identifier) → List Identifier
          pick (Some list) = list
          pick None = one
  close_paren_holds (f.Expression (x.Infix i.Comma left) ∷ f.Expression (x.Paren at) ∷ frames) token now (inside, (from, opened, fits, (place, o)), least, (a, (any, r), comma)) e =
      head_where_holds frames at (list_of left.heading) from now opened
      (λ list q. (place, enclosed_names list from now (inside, o, (token ∷ now, names_comma list inside a (token ∷ now) (read_listed left list inside a r q) comma, (e, refl)))))
  close_paren_holds (f.Expression (x.Arguments of list) ∷ frames) token now (from, opened, fits, (b, (a, taken, o), r)) e =
      (from, opened, fits, called_level of list (lowest frames) fits, read_called of list from a b (token ∷ now) now taken o (read_elements list b (token ∷ now) r) (e, refl))
  close_paren_holds _ token now h e = tt

  close_bracket_holds : (frames : Frames) (token : Token) (now : Tokens) → Opened whole frames (token ∷ now) → token.kind ≡ word "]" → Holds whole (close_bracket frames) now
  close_bracket_holds (f.Expression (x.Array at items) ∷ frames) token now (from, opened, fits, (a, o, r)) e =
      (from, opened, fits, omega (arith, fits), read_array at items from a (token ∷ now) now o (read_elements items a (token ∷ now) r) (e, refl))
  close_bracket_holds _ token now h e = tt

  prefixed_holds : (frames : Frames) (token : Token) (now : Tokens) (operator : Option Prefix) → Opened whole frames (token ∷ now) → IsPrefix operator token.kind → Holds whole (prefixed frames operator token.at) now
  prefixed_holds frames token now (Some operator) h e =
      split (λ st. Holds whole st now) (nat_le (slot frames) 15) _ _ (λ q. ((token ∷ now, h, below frames 15 q, (refl, (e, refl))), omega arith)) (λ q. tt)
  prefixed_holds frames token now None h e = tt

  updated_holds : (frames : Frames) (token : Token) (now : Tokens) (up : Bool) → Opened whole frames (token ∷ now) → step up (token ∷ now) now → Holds whole (updated frames up token.at) now
  updated_holds frames token now up h o =
      split (λ st. Holds whole st now) (nat_le (slot frames) 16) _ _ (λ q. ((token ∷ now, h, below frames 16 q, (refl, o)), omega arith)) (λ q. tt)

  operand_word_holds : (frames : Frames) (token : Token) (now : Tokens) (one : Word) → lowest frames ≤ 17 → Opened whole frames (token ∷ now) → Is one token.kind → Holds whole (operand_word frames one token.at) now
  operand_word_holds frames token now w.This low h e = (token ∷ now, h, low, omega (arith, low), read_this token now e)
  operand_word_holds frames token now w.Null low h e = (token ∷ now, h, low, omega (arith, low), read_null token now e)
  operand_word_holds frames token now w.True low h e = (token ∷ now, h, low, omega (arith, low), read_true token now e)
  operand_word_holds frames token now w.False low h e = (token ∷ now, h, low, omega (arith, low), read_false token now e)
  operand_word_holds frames token now w.Super low h e = (token ∷ now, h, low, (refl, (e, refl)))
  operand_word_holds frames token now w.New low h e = ((token ∷ now, h, low, (refl, (e, refl))), omega arith)
  operand_word_holds frames token now w.Function low h e = (token ∷ now, h, low, (refl, (e, refl)))
  operand_word_holds frames token now w.Class low h e = (token ∷ now, h, low, (refl, (e, refl)))
  operand_word_holds frames token now w.LeftParen low h e = ((token ∷ now, h, low, (refl, (e, refl))), omega arith)
  operand_word_holds frames token now w.LeftBracket low h e = ((token ∷ now, h, low, (now, (refl, (e, refl)), read_none now)), omega arith)
  operand_word_holds frames token now w.LeftBrace low h e = (now, (token ∷ now, h, low, (now, (refl, (e, refl)), read_no_members now)), tt, refl)
  operand_word_holds frames token now w.PlusPlus low h e = updated_holds frames token now true h (e, refl)
  operand_word_holds frames token now w.MinusMinus low h e = updated_holds frames token now false h (e, refl)
  operand_word_holds frames token now w.RightParen low h e = close_paren_holds frames token now h e
  operand_word_holds frames token now w.RightBracket low h e = close_bracket_holds frames token now h e
  operand_word_holds frames token now one low h e = prefixed_holds frames token now (prefix_of one) h (prefix_word one token.kind e)

  operand_kind_holds : (frames : Frames) (token : Token) (now : Tokens) (kind : TokenKind) → lowest frames ≤ 17 → Opened whole frames (token ∷ now) → token.kind ≡ kind → Holds whole (operand_kind frames kind token.at) now
  operand_kind_holds frames token now (k.Name text) low h e = (token ∷ now, h, low, omega (arith, low), read_name token text now e)
  operand_kind_holds frames token now (k.Number number) low h e = (token ∷ now, h, low, omega (arith, low), read_number token number now e)
  operand_kind_holds frames token now (k.String text) low h e = (token ∷ now, h, low, omega (arith, low), read_string token text now e)
  operand_kind_holds frames token now (k.Template true true text) low h e = (token ∷ now, h, low, omega (arith, low), read_plain_template token text now e)
  operand_kind_holds frames token now (k.Template true false text) low h e = ((token ∷ now, h, low, (refl, read_pieces token text now e)), omega arith)
  operand_kind_holds frames token now (k.Template false last text) low h e = tt
  operand_kind_holds frames token now (k.Keyword place) low h e =
      operand_word_holds frames token now (keyword_word place) low h (subst (λ u. Is (keyword_word place) u) (sym e) (kind_is (k.Keyword place)))
  operand_kind_holds frames token now (k.Sign place) low h e =
      operand_word_holds frames token now (sign_word place) low h (subst (λ u. Is (sign_word place) u) (sym e) (kind_is (k.Sign place)))
  operand_kind_holds frames token now k.End low h e = tt

  pub operand_holds : (frames : Frames) (token : Token) (now : Tokens) → lowest frames ≤ 17 → Opened whole frames (token ∷ now) → Holds whole (operand frames token) now
  operand_holds frames token now low h = operand_kind_holds frames token now token.kind low h refl

  -- Statements.

  pub declaration_holds : (frames : Frames) (token : Token) (now : Tokens) (one : Word) → Takes frames true → Opened whole frames (token ∷ now) → Is one token.kind → Holds whole (declaration frames one token.at) now
  declaration_holds frames token now w.Let takes h e = (token ∷ now, h, takes, (now, (e, refl), read_no_names false now))
  declaration_holds frames token now w.Const takes h e = (token ∷ now, h, takes, (now, (e, refl), read_no_names true now))
  declaration_holds frames token now w.Function takes h e = (token ∷ now, h, takes, (refl, (e, refl)))
  declaration_holds frames token now w.Class takes h e = (token ∷ now, h, takes, (refl, (e, refl)))
  declaration_holds frames token now _ takes h e = tt

  declared_holds : (frames : Frames) (token : Token) (now : Tokens) (one : Word) → Opened whole frames (token ∷ now) → Is one token.kind → Holds whole (declared frames one token.at) now
  declared_holds frames token now one h e =
      split (λ st. Holds whole st now) (in_list frames) _ _ (λ q. declaration_holds frames token now one (takes_in_list frames q) h e) (λ q. tt)

  statement_word_holds : (frames : Frames) (token : Token) (now : Tokens) (one : Word) → Takes frames false → Opened whole frames (token ∷ now) → the_word token ≡ one → Is one token.kind → Holds whole (statement_word frames one token) now
  statement_word_holds frames token now w.LeftBrace takes h q e = ((token ∷ now, h, takes, (now, (token ∷ now, refl, (e, refl)), read_no_statements now)), tt)
  statement_word_holds frames token now w.RightBrace takes h q e = braces_end_holds whole frames token now h e
  statement_word_holds frames token now w.Semicolon takes h q e = put_holds whole false frames (p.bare t.Empty) (token ∷ now) now takes h (read_empty token now e)
  statement_word_holds frames token now w.End takes h q e = module_end_holds whole frames token now h e
  statement_word_holds frames token now w.Let takes h q e = declared_holds frames token now w.Let h e
  statement_word_holds frames token now w.Const takes h q e = declared_holds frames token now w.Const h e
  statement_word_holds frames token now w.Function takes h q e = declared_holds frames token now w.Function h e
  statement_word_holds frames token now w.Class takes h q e = declared_holds frames token now w.Class h e
  statement_word_holds frames token now w.If takes h q e = (token ∷ now, h, takes, (e, refl))
  statement_word_holds frames token now w.While takes h q e = (token ∷ now, h, takes, (e, refl))
  statement_word_holds frames token now w.Switch takes h q e = (token ∷ now, h, takes, (e, refl))
  statement_word_holds frames token now w.For takes h q e = (token ∷ now, h, takes, (e, refl))
  statement_word_holds frames token now w.Do takes h q e = ((token ∷ now, h, takes, (e, refl)), refl)
  statement_word_holds frames token now w.Break takes h q e = (token ∷ now, h, takes, (refl, (e, refl)))
  statement_word_holds frames token now w.Continue takes h q e = (token ∷ now, h, takes, (refl, (e, refl)))
  statement_word_holds frames token now w.Return takes h q e = (token ∷ now, h, takes, (refl, (e, refl)))
  statement_word_holds frames token now w.Throw takes h q e = (token ∷ now, h, takes, (e, refl))
  statement_word_holds frames token now w.Try takes h q e = (token ∷ now, h, takes, (refl, (e, refl)))
  statement_word_holds frames token now w.Case takes h q e = next_case_holds whole frames token now w.Case h e
  statement_word_holds frames token now w.Default takes h q e = next_case_holds whole frames token now w.Default h e
  statement_word_holds frames token now w.Import takes h q e = split (λ st. Holds whole st now) (in_module frames) _ _ (λ d. (token ∷ now, h, tt, (e, refl))) (λ d. tt)
  statement_word_holds frames token now w.Export takes h q e = split (λ st. Holds whole st now) (in_module frames) _ _ (λ d. (token ∷ now, h, tt, (e, refl))) (λ d. tt)
  statement_word_holds frames token now one takes h q e =
      operand_holds (f.Statement s.Value ∷ frames) token now (omega arith) (token ∷ now, h, takes, (refl, sym (no_value_is token) ∙ ap begins_no_value q))

  pub begin_holds : (frames : Frames) (token : Token) (now : Tokens) → Takes frames false → Opened whole frames (token ∷ now) → Holds whole (begin frames token) now
  begin_holds frames token now takes h = statement_word_holds frames token now (the_word token) takes h refl (kind_is token.kind)

  -- A statement that ended before a token.

  pub close_item_holds : (frames : Frames) (one : Sorted t.item) (token : Token) (from now : Tokens) → Opened whole frames from → ReadItem one from (token ∷ now) → Holds whole (close_item frames one token) now
  close_item_holds (f.Item (n.Module items) ∷ frames) one token from now (start, opened, fits, taken) r =
      begin_holds (f.Item (n.Module (and_then items one)) ∷ frames) token now tt (start, opened, tt, read_items_more items one start from (token ∷ now) taken r)
  close_item_holds _ one token from now h r = tt

  -- one that ends in an `if` has no `else` behind it
  pub close_holds : (declares short : Bool) (frames : Frames) (line : Sorted t.statement) (token : Token) (from now : Tokens) → Takes frames declares → Opened whole frames from → ReadLine declares short line from (token ∷ now) →
      (short && is_else (the_word token)) ≡ false → Holds whole (close frames line token) now
  close_holds declares short (f.Statement (s.List stands list) ∷ frames) line token from now takes (start, opened, fits, (a, before, taken)) r c =
      begin_holds (f.Statement (s.List stands (and_then list line)) ∷ frames) token now tt (start, opened, fits, (a, before, read_statements_more declares short list line a from (token ∷ now) taken r))
  close_holds declares short (f.Statement (s.Yes test) ∷ frames) line token from now takes (start, opened, fits, taken) r c =
      let inside : ReadLine false short line from (token ∷ now) = subst (λ b. ReadLine b short line from (token ∷ now)) takes r in
      else_or_by (λ st. Holds whole st now) token (the_word token) (statement_due (f.Statement (s.No test line) ∷ frames)) (close frames (p.choice test line None) token) refl
      (λ e. ((start, opened, fits, (token ∷ now, (from, taken, subst (λ b. ReadLine false b line from (token ∷ now)) (not_short token short e c) inside), (e, refl))), refl))
      (λ q. close_holds false true frames (p.choice test line None) token start now fits opened (read_short_if short test line start from (token ∷ now) taken inside) q)
  close_holds declares short (f.Statement (s.No test first) ∷ frames) line token from now takes (start, opened, fits, taken) r c =
      close_holds false short frames (p.choice test first (Some line)) token start now fits opened (read_if short test first line start from (token ∷ now) taken (subst (λ b. ReadLine b short line from (token ∷ now)) takes r)) c
  close_holds declares short (f.Statement (s.While test) ∷ frames) line token from now takes (start, opened, fits, taken) r c =
      close_holds false short frames (p.while_loop test line) token start now fits opened (read_while short test line start from (token ∷ now) taken (subst (λ b. ReadLine b short line from (token ∷ now)) takes r)) c
  close_holds declares short (f.Statement (s.For head test each) ∷ frames) line token from now takes (start, opened, fits, taken) r c =
      close_holds false short frames (p.for_loop head test each line) token start now fits opened (read_for short head test each line start from (token ∷ now) taken (subst (λ b. ReadLine b short line from (token ∷ now)) takes r)) c
  close_holds declares short (f.Statement s.Do ∷ frames) line token from now takes (start, opened, fits, taken) r c =
      while_by (λ st. Holds whole st now) token (the_word token) _ (kind_is token.kind)
      (λ e. (start, opened, fits, (token ∷ now, (from, taken, read_inner short line from (token ∷ now) (subst (λ b. ReadLine b short line from (token ∷ now)) takes r)), (e, refl)))) tt
  close_holds declares short (f.Item (n.Module items) ∷ frames) line token from now takes h r c =
      close_item_holds (f.Item (n.Module items) ∷ frames) (p.plain_item line) token from now h (read_plain_item declares short line from (token ∷ now) r)
  close_holds declares short (f.Item n.Export ∷ frames) line token from now takes (start, opened, fits, taken) r c =
      close_item_holds frames (p.exported_item line) token start now opened (read_exported_item short line start from (token ∷ now) taken (subst (λ b. ReadLine b short line from (token ∷ now)) takes r))
  close_holds declares short _ line token from now takes h r c = tt
