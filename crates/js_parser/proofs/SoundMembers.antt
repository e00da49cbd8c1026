-- Where a part of an expression, of a member, of a function or of a class is due: what was taken still stands for the tokens.
use Rattle.std.proofs.Common.{◌≡◌, ◌∙◌, sym, ap, ap₂, subst, refl, ℕ, ℤ, ◌≤◌, Bool, true, false, List, [], ◌∷◌, ◌++◌, Option, Some, None, arith, true≢false}
use Rattle.std.proofs.lemmas.Bool.{eqb-true}
use Rattle.std.specs.Prelude.{◌==◌, codes}
use Rattle.es_model.specs.declared.kinds.MemberKind.{MemberKind}
use Rattle.es_model.specs.declared.kinds.MemberKind.TheVariants as kind
use Rattle.es_model.specs.declared.names.Identifier.{Identifier}
use Rattle.es_model.specs.declared.token.Token.{Token}
use Rattle.es_model.specs.declared.token.TokenKind.{TokenKind}
use Rattle.es_model.specs.declared.token.TokenKind.TheVariants as k
use Rattle.es_model.specs.Tokens.{same_text}
use Rattle.es_model.specs.Tree as t
use Rattle.es_model.specs.Tree.{Text}
use Rattle.es_model.specs.Readings.{Tokens, word, the, name, plain_name, here}
use Rattle.es_model.specs.Spelling.{Spells, static_before, accessor_word, member_parameters}
use Rattle.js_parser.specs.declared.words.Word.{Word}
use Rattle.js_parser.specs.declared.words.Word.TheVariants as w
use Rattle.js_parser.specs.MemberStart.{MemberStart}
use Rattle.js_parser.specs.ClassStart.{ClassStart}
use Rattle.js_parser.specs.Signature.{Signature}
use Rattle.js_parser.specs.Signature as g
use Rattle.js_parser.specs.declared.frame.Role.{Role}
use Rattle.js_parser.specs.declared.frame.Role.TheVariants as role
use Rattle.js_parser.specs.Frame as f
use Rattle.js_parser.specs.ExpressionFrame as x
use Rattle.js_parser.specs.MemberFrame as m
use Rattle.js_parser.specs.ExpressionDue.{ExpressionDue}
use Rattle.js_parser.specs.ExpressionDue as xd
use Rattle.js_parser.specs.MemberDue.{MemberDue}
use Rattle.js_parser.specs.MemberDue as md
use Rattle.js_parser.specs.Words.{sign_word}
use Rattle.parser_forms.specs.Kept.{Sorted}
use Rattle.parser_forms.specs.Parts as p
use Rattle.js_parser.specs.State.{Frames, State, fail, the_word}
use Rattle.js_parser.specs.Ends.{is_derived}
use Rattle.js_parser.specs.MemberSteps.{ident, property, super_arguments, super_word, arrow_word, arrow_body, expression_step, start_of, keyword_key, sign_key, key_kind, name_start, member_kind, member_start, object_key, class_key, key_next, accessor, fixed_member, object_member, class_member, member_due, member_next, is_setter, is_setter_of, is_getter, is_getter_of, function_name, parameter_end, parameter, parameter_next, class_next, class_name, open_paren, open_brace, member_step}
use Rattle.js_parser.proofs.FormLaws as laws
use Rattle.js_parser.proofs.WordLaws.{Is, kind_is, begins_no_body, no_body_is}
use Rattle.js_parser.proofs.SoundLists.{each_last, each_comma, names_joined, names_commaed}
use Rattle.js_parser.proofs.SoundStates.{Opened, Holds, DueHolds, MemberHolds, NextHolds, ExpressionFits, ExpressionTaken, MemberTaken, ReadKey, NamedAs, MemberBefore, StartTaken, StartFits, FixedFits, IsOfFunction, IsAccessor, ShortIs, SignatureFits, ClassHead, RoleFits, BehindRole, PartParameters, NextParameters, ArrowTaken, kind_of, lowest}
use Rattle.js_parser.proofs.SoundForms.{and_true, read_none, read_dot, read_super_dot, read_object, read_joined_object}
use Rattle.js_parser.proofs.SoundMemberForms.{read_short_member, read_members_comma, read_no_class_members, read_class_semicolon}
use Rattle.js_parser.proofs.SoundStatementForms.{read_no_statements}
use Rattle.js_parser.proofs.SoundEnds.{split, class_end_holds}
use Rattle.js_parser.proofs.SoundBegins.{operand_holds}
use Rattle.js_parser.proofs.SoundSettle.{object_next_holds}

-- Keys.

read_word_key : (token : Token) (text : Text) (now : Tokens) → plain_name token.kind ≡ Some text → ReadKey (p.key (t.KeyWord text)) (token ∷ now) now
unfolding Spells
read_word_key token text now e = (t.KeyWord text, sym (laws.key_word_is text), (e, refl))

read_string_key : (token : Token) (text : Text) (now : Tokens) → token.kind ≡ k.String text → ReadKey (p.key (t.KeyString text)) (token ∷ now) now
unfolding Spells
read_string_key token text now e = (t.KeyString text, sym (laws.key_string_is text), (e, refl))

read_number_key : (token : Token) (number : ℤ) (now : Tokens) → token.kind ≡ k.Number number → ReadKey (p.key (t.KeyNumber number)) (token ∷ now) now
unfolding Spells
read_number_key token number now e = (t.KeyNumber number, sym (laws.key_number_is number), (e, refl))

read_static_key : (from to : Tokens) → the "static" from to → ReadKey (p.key (t.KeyWord (codes "static"))) from to
unfolding Spells word
read_static_key [] to h = absurd h
read_static_key (token ∷ tokens) to (e, same) = (t.KeyWord (codes "static"), sym (laws.key_word_is (codes "static")), (ap plain_name e, same))

read_name_key : (one : Identifier) (from to : Tokens) → name one from to → ReadKey (p.key (t.KeyWord one.name)) from to
unfolding Spells
read_name_key one [] to h = absurd h
read_name_key one (token ∷ tokens) to ((e, at), same) = (t.KeyWord one.name, sym (laws.key_word_is one.name), (ap plain_name e, same))

-- the word of an accessor
accessor_read : (kinded : MemberKind) (one : Identifier) (from to : Tokens) → IsAccessor kinded one → name one from to → accessor_word kinded from to
accessor_read kind.Getter one [] to h r = r
accessor_read kind.Getter one (token ∷ tokens) to h ((e, at), same) = (e ∙ ap k.Name h, same)
accessor_read kind.Setter one [] to h r = r
accessor_read kind.Setter one (token ∷ tokens) to h ((e, at), same) = (e ∙ ap k.Name h, same)
accessor_read _ one from to h r = absurd h

accessor_function : (kinded : MemberKind) (one : Identifier) → IsAccessor kinded one → IsOfFunction kinded
accessor_function kind.Getter one h = tt
accessor_function kind.Setter one h = tt
accessor_function _ one h = absurd h

free_of_static : (frames : Frames) → FixedFits false frames
free_of_static (f.Member (m.Object at members) ∷ frames) = refl
free_of_static _ = tt

pub same_text_is : (a b : Text) → same_text a b ≡ true → a ≡ b
same_text_is [] [] e = refl
same_text_is [] (d ∷ b) e = absurd (true≢false (sym e))
same_text_is (c ∷ a) [] e = absurd (true≢false (sym e))
same_text_is (c ∷ a) (d ∷ b) e = let (first, rest) = and_true (c == d) (same_text a b) e in ap₂ (λ u v. u ∷ v) (eqb-true c d first) (same_text_is a b rest)

short_by : (one : Identifier) (fixed : Bool) (kinded : MemberKind) (from to : Tokens) → (fixed ≡ false → kinded ≡ kind.Method → name one from to) → ShortIs (Some one) fixed kinded from to
short_by one false kind.Method from to h = h refl refl
short_by one _ _ from to h = tt

short_named : (one : Identifier) (fixed : Bool) (kinded : MemberKind) (from to : Tokens) → fixed ≡ false → kinded ≡ kind.Method → ShortIs (Some one) fixed kinded from to → name one from to
short_named one fixed kinded from to free plain h = subst (λ u. ShortIs (Some one) false u from to) plain (subst (λ u. ShortIs (Some one) u kinded from to) free h)

named_some : (stands : Role) (own : Identifier) → NamedAs stands (Some own)
named_some role.Expression own = tt
named_some role.Statement own = tt
named_some (role.Default place) own = tt

-- Parameters.

no_parameters : (kinded : MemberKind) (now : Tokens) → PartParameters kinded [] now now
no_parameters kind.Getter now = refl
no_parameters kind.Setter now = refl
no_parameters _ now = refl

parameters_more : (kinded : MemberKind) (list : List Identifier) (one : Identifier) (from a to : Tokens) → is_getter kinded ≡ false → PartParameters kinded list from a → name one a to → NextParameters kinded (list ++ one ∷ []) from to
parameters_more kind.Getter list one from a to e h r = absurd (true≢false e)
parameters_more kind.Setter [] one from a to e h r = subst (λ u. name one u to) (sym h) r
parameters_more kind.Setter (other ∷ rest) one from a to e h r = absurd h
parameters_more _ list one from a to e h r = each_last name list one from a to h r

parameters_over : (kinded : MemberKind) (list : List Identifier) (from to : Tokens) → is_setter kinded ≡ false → PartParameters kinded list from to → member_parameters kinded list from to
parameters_over kind.Getter list from to e h = h
parameters_over kind.Setter list from to e h = absurd (true≢false e)
parameters_over _ list from to e h = names_commaed list from to h

parameters_last : (kinded : MemberKind) (list : List Identifier) (from to : Tokens) → NextParameters kinded list from to → member_parameters kinded list from to
parameters_last kind.Getter list from to h = absurd h
parameters_last kind.Setter list from to h = h
parameters_last _ list from to h = names_joined list from to h

parameters_comma : (kinded : MemberKind) (list : List Identifier) (from a to : Tokens) → is_setter kinded ≡ false → NextParameters kinded list from a → the "," a to → PartParameters kinded list from to
parameters_comma kind.Getter list from a to e h c = absurd h
parameters_comma kind.Setter list from a to e h c = absurd (true≢false e)
parameters_comma _ list from a to e h c = each_comma name list from a to h c

getter_is : (signature : Signature) → is_getter_of signature ≡ is_getter (kind_of signature)
getter_is (g.Function at own stands) = refl
getter_is (g.Method start) = refl

setter_is : (signature : Signature) → is_setter_of signature ≡ is_setter (kind_of signature)
setter_is (g.Function at own stands) = refl
setter_is (g.Method start) = refl

open_paren_by : (P : State → Type 0) (token : Token) (one : Word) (st : State) → Is one token.kind → (token.kind ≡ word "(" → P st) → P fail → P (open_paren st one)
open_paren_by P token w.LeftParen st e f g = f e
open_paren_by P token _ st e f g = g

open_brace_by : (P : State → Type 0) (token : Token) (one : Word) (st : State) → Is one token.kind → (token.kind ≡ word "{" → P st) → P fail → P (open_brace st one)
open_brace_by P token w.LeftBrace st e f g = f e
open_brace_by P token _ st e f g = g

property_by : (P : State → Type 0) (named : Option Text) (make : Text → State) → ((text : Text) → named ≡ Some text → P (make text)) → P fail → P (property named make)
property_by P (Some text) make f g = f text refl
property_by P None make f g = g

module _ (whole : Tokens) where
  -- Expressions.

  super_arguments_holds : (frames : Frames) (at : ℕ) (token : Token) (from now : Tokens) → Opened whole frames from → lowest frames ≤ 17 → here at (the "super") from (token ∷ now) → token.kind ≡ word "(" → Holds whole (super_arguments frames at) now
  super_arguments_holds (f.Expression (x.New place) ∷ frames) at token from now h low taken e = tt
  super_arguments_holds frames at token from now h low taken e = ((from, h, low, (now, (token ∷ now, taken, (e, refl)), read_none now)), omega arith)

  super_word_holds : (frames : Frames) (at : ℕ) (token : Token) (from now : Tokens) (one : Word) → Opened whole frames from → lowest frames ≤ 17 → here at (the "super") from (token ∷ now) → Is one token.kind → Holds whole (super_word frames at one) now
  super_word_holds frames at token from now w.Point h low taken e = (from, h, low, (token ∷ now, taken, (e, refl)))
  super_word_holds frames at token from now w.LeftBracket h low taken e = ((from, h, low, (token ∷ now, taken, (e, refl))), omega arith)
  super_word_holds frames at token from now w.LeftParen h low taken e = super_arguments_holds frames at token from now h low taken e
  super_word_holds frames at token from now _ h low taken e = tt

  arrow_word_holds : (frames : Frames) (at : ℕ) (list : List Identifier) (token : Token) (from now : Tokens) (one : Word) (line : Bool) → Opened whole frames from → lowest frames ≤ 2 → ExpressionTaken (xd.Arrow at list) from (token ∷ now) →
      Is one token.kind → token.line_before ≡ line → Holds whole (arrow_word frames at list one line) now
  arrow_word_holds frames at list token from now w.Arrow false h low (place, taken) e q = (from, h, low, (place, (token ∷ now, taken, (q, (e, refl)))))
  arrow_word_holds frames at list token from now _ _ h low taken e q = tt

  arrow_body_holds : (frames : Frames) (at : ℕ) (list : List Identifier) (token : Token) (from now : Tokens) (one : Word) → Opened whole frames from → lowest frames ≤ 2 → ArrowTaken at list from (token ∷ now) →
      Is one token.kind → the_word token ≡ one → Holds whole (arrow_body frames at list token one) now
  arrow_body_holds frames at list token from now w.LeftBrace h low taken e q = ((from, h, low, (now, (token ∷ now, taken, (e, refl)), read_no_statements now)), tt)
  arrow_body_holds frames at list token from now _ h low taken e q =
      operand_holds whole (f.Expression (x.Arrow at list) ∷ frames) token now (omega arith) (from, h, low, (taken, sym (no_body_is token) ∙ ap begins_no_body q))

  pub expression_step_holds : (due : ExpressionDue) (frames : Frames) (token : Token) (now : Tokens) → DueHolds whole frames (ExpressionFits due frames) (ExpressionTaken due) (token ∷ now) → Holds whole (expression_step due frames token) now
  expression_step_holds (xd.Property part) frames token now (from, h, low, (a, base, point)) =
      property_by (λ st. Holds whole st now) (plain_name token.kind) _ (λ text q. (from, h, low, low, read_dot part text from a (token ∷ now) now base point (q, refl))) tt
  expression_step_holds (xd.Super at) frames token now (from, h, low, taken) = super_word_holds frames at token from now (the_word token) h low taken (kind_is token.kind)
  expression_step_holds (xd.SuperProperty at) frames token now (from, h, low, (a, base, point)) =
      property_by (λ st. Holds whole st now) (plain_name token.kind) _ (λ text q. (from, h, low, low, read_super_dot at text from a (token ∷ now) now base point (q, refl))) tt
  expression_step_holds (xd.Arrow at list) frames token now (from, h, low, taken) = arrow_word_holds frames at list token from now (the_word token) token.line_before h low taken (kind_is token.kind) refl
  expression_step_holds (xd.ArrowBody at list) frames token now (from, h, low, taken) = arrow_body_holds frames at list token from now (the_word token) h low taken (kind_is token.kind) refl

  -- Members.

  keyword_key_holds : (frames : Frames) (at : ℕ) (fixed : Bool) (kinded : MemberKind) (token : Token) (from now : Tokens) (named : Option Text) → Opened whole frames from → StartFits fixed kinded frames → MemberBefore at fixed kinded from (token ∷ now) →
      plain_name token.kind ≡ named → Holds whole (keyword_key frames at fixed kinded named) now
  keyword_key_holds frames at fixed kinded token from now (Some text) h fits (place, (l, static, before)) e = (from, h, fits, ((place, (l, static, (token ∷ now, before, read_word_key token text now e))), tt))
  keyword_key_holds frames at fixed kinded token from now None h fits taken e = tt

  sign_key_holds : (frames : Frames) (at : ℕ) (fixed : Bool) (kinded : MemberKind) (token : Token) (from now : Tokens) (one : Word) → Opened whole frames from → StartFits fixed kinded frames → MemberBefore at fixed kinded from (token ∷ now) →
      Is one token.kind → Holds whole (sign_key frames at fixed kinded one) now
  sign_key_holds frames at fixed kinded token from now w.LeftBracket h fits taken e = ((from, h, fits, (token ∷ now, taken, (e, refl))), omega arith)
  sign_key_holds frames at fixed kinded token from now _ h fits taken e = tt

  key_kind_holds : (frames : Frames) (at : ℕ) (fixed : Bool) (kinded : MemberKind) (token : Token) (from now : Tokens) (what : TokenKind) → Opened whole frames from → StartFits fixed kinded frames → MemberBefore at fixed kinded from (token ∷ now) →
      (fixed ≡ false → kinded ≡ kind.Method → from ≡ token ∷ now) → token.kind ≡ what → Holds whole (key_kind frames at fixed kinded token.at what) now
  key_kind_holds frames at fixed kinded token from now (k.Name text) h fits (place, (l, static, before)) alone e = (
    from,
    h,
    fits,
    (
      (place, (l, static, (token ∷ now, before, read_word_key token text now (ap plain_name e)))),
      short_by (ident token.at text) fixed kinded from now (λ free plain. subst (λ u. name (ident token.at text) u now) (sym (alone free plain)) ((e, refl), refl)),
    ),
  )
  key_kind_holds frames at fixed kinded token from now (k.Keyword number) h fits taken alone e = keyword_key_holds frames at fixed kinded token from now (plain_name (k.Keyword number)) h fits taken (ap plain_name e)
  key_kind_holds frames at fixed kinded token from now (k.String text) h fits (place, (l, static, before)) alone e = (from, h, fits, ((place, (l, static, (token ∷ now, before, read_string_key token text now e))), tt))
  key_kind_holds frames at fixed kinded token from now (k.Number number) h fits (place, (l, static, before)) alone e = (from, h, fits, ((place, (l, static, (token ∷ now, before, read_number_key token number now e))), tt))
  key_kind_holds frames at fixed kinded token from now (k.Sign number) h fits taken alone e =
      sign_key_holds frames at fixed kinded token from now (sign_word number) h fits taken (subst (λ u. Is (sign_word number) u) (sym e) (kind_is (k.Sign number)))
  key_kind_holds frames at fixed kinded token from now _ h fits taken alone e = tt

  -- a member with what may stand before its key: `static` or nothing
  plain_key_holds : (frames : Frames) (at : ℕ) (fixed : Bool) (token : Token) (from now : Tokens) (what : TokenKind) → Opened whole frames from → FixedFits fixed frames → here at (static_before fixed) from (token ∷ now) →
      token.kind ≡ what → Holds whole (key_kind frames at fixed kind.Method token.at what) now
  plain_key_holds frames at fixed token from now what h fits (place, static) e =
      key_kind_holds frames at fixed kind.Method token from now what h (fits, tt) (place, (token ∷ now, static, refl)) (λ free plain. subst (λ b. static_before b from (token ∷ now)) free static) e

  name_start_holds : (frames : Frames) (at : ℕ) (fixed : Bool) (token : Token) (from now : Tokens) (text : Text) → Opened whole frames from → FixedFits fixed frames → here at (static_before fixed) from (token ∷ now) →
      token.kind ≡ k.Name text → Holds whole (name_start frames at fixed token.at text) now
  name_start_holds frames at fixed token from now text h fits (place, static) e =
      split (λ st. Holds whole st now) (same_text text (codes "get")) _ _
      (λ q. (from, h, (fits, same_text_is text (codes "get") q), (place, (token ∷ now, static, ((e, refl), refl)))))
      (λ d. split (λ st. Holds whole st now) (same_text text (codes "set")) _ _
      (λ q. (from, h, (fits, same_text_is text (codes "set") q), (place, (token ∷ now, static, ((e, refl), refl)))))
      (λ c. plain_key_holds frames at fixed token from now (k.Name text) h fits (place, static) e))

  member_kind_holds : (frames : Frames) (at : ℕ) (fixed : Bool) (token : Token) (from now : Tokens) (what : TokenKind) → Opened whole frames from → FixedFits fixed frames → here at (static_before fixed) from (token ∷ now) →
      token.kind ≡ what → Holds whole (member_kind frames at fixed token.at what) now
  member_kind_holds frames at fixed token from now (k.Name text) h fits taken e = name_start_holds frames at fixed token from now text h fits taken e
  member_kind_holds frames at fixed token from now what h fits taken e = plain_key_holds frames at fixed token from now what h fits taken e

  member_start_holds : (frames : Frames) (at : ℕ) (fixed : Bool) (token : Token) (from now : Tokens) → Opened whole frames from → FixedFits fixed frames → here at (static_before fixed) from (token ∷ now) → Holds whole (member_start frames at fixed token) now
  member_start_holds frames at fixed token from now h fits taken = member_kind_holds frames at fixed token from now token.kind h fits taken refl

  parameters_hold : (frames : Frames) (start : MemberStart) (token : Token) (from now : Tokens) → Opened whole frames from → StartFits start.fixed start.kind frames → StartTaken start from (token ∷ now) → token.kind ≡ word "(" →
      MemberHolds whole (md.Parameter (g.Method start) []) frames now
  parameters_hold frames start token from now h fits taken e = (from, h, fits, (now, (token ∷ now, taken, (e, refl)), no_parameters start.kind now))

  object_key_holds : (at : ℕ) (members : Sorted (t.list t.member)) (frames : Frames) (start : MemberStart) (short : Option Identifier) (kinded : MemberKind) (token : Token) (from now : Tokens) (one : Word) →
      Opened whole (f.Member (m.Object at members) ∷ frames) from → StartFits start.fixed start.kind (f.Member (m.Object at members) ∷ frames) → StartTaken start from (token ∷ now) → ShortIs short start.fixed start.kind from (token ∷ now) →
      start.kind ≡ kinded → Is one token.kind → Holds whole (object_key (f.Member (m.Object at members) ∷ frames) start short kinded one) now
  object_key_holds at members frames start short kinded token from now w.LeftParen h fits taken alone q e = parameters_hold (f.Member (m.Object at members) ∷ frames) start token from now h fits taken e
  object_key_holds at members frames start short kind.Method token from now w.Colon h (free, ok) taken alone q e = ((from, h, (free, q), (token ∷ now, taken, (e, refl))), omega arith)
  object_key_holds at members frames start (Some own) kind.Method token from now w.Comma h (free, ok) taken alone q e =
      object_next_holds whole (f.Member (m.Object at members) ∷ frames) (p.short_member own) token from now w.Comma h (read_short_member own from (token ∷ now) (short_named own start.fixed start.kind from (token ∷ now) free q alone)) e
  object_key_holds at members frames start (Some own) kind.Method token from now w.RightBrace h (free, ok) taken alone q e =
      object_next_holds whole (f.Member (m.Object at members) ∷ frames) (p.short_member own) token from now w.RightBrace h (read_short_member own from (token ∷ now) (short_named own start.fixed start.kind from (token ∷ now) free q alone)) e
  object_key_holds at members frames start short kinded token from now _ h fits taken alone q e = tt

  class_key_holds : (frames : Frames) (start : MemberStart) (token : Token) (from now : Tokens) (one : Word) → Opened whole frames from → StartFits start.fixed start.kind frames → StartTaken start from (token ∷ now) →
      Is one token.kind → Holds whole (class_key frames start one) now
  class_key_holds frames start token from now w.LeftParen h fits taken e = parameters_hold frames start token from now h fits taken e
  class_key_holds frames start token from now _ h fits taken e = tt

  key_next_holds : (frames : Frames) (start : MemberStart) (short : Option Identifier) (token : Token) (from now : Tokens) (one : Word) → Opened whole frames from → StartFits start.fixed start.kind frames → StartTaken start from (token ∷ now) →
      ShortIs short start.fixed start.kind from (token ∷ now) → Is one token.kind → Holds whole (key_next frames start short one) now
  key_next_holds (f.Member (m.Object at members) ∷ frames) start short token from now one h fits taken alone e = object_key_holds at members frames start short start.kind token from now one h fits taken alone refl e
  key_next_holds frames start short token from now one h fits taken alone e = class_key_holds frames start token from now one h fits taken e

  -- `get` or `set` as a key
  word_key_holds : (frames : Frames) (at : ℕ) (fixed : Bool) (own : Identifier) (token : Token) (from a now : Tokens) (one : Word) → Opened whole frames from → FixedFits fixed frames → here at (static_before fixed) from a → name own a (token ∷ now) →
      Is one token.kind → Holds whole (key_next frames (start_of at fixed kind.Method (p.key (t.KeyWord own.name))) (Some own) one) now
  word_key_holds frames at fixed own token from a now one h fits (place, static) named e =
      key_next_holds frames (start_of at fixed kind.Method (p.key (t.KeyWord own.name))) (Some own) token from now one h (fits, tt) (place, (a, static, (a, refl, read_name_key own a (token ∷ now) named)))
      (short_by own fixed kind.Method from (token ∷ now) (λ free plain. subst (λ u. name own u (token ∷ now)) (sym (subst (λ b. static_before b from a) free static)) named)) e

  accessor_holds : (frames : Frames) (at : ℕ) (fixed : Bool) (kinded : MemberKind) (own : Identifier) (token : Token) (from a now : Tokens) (one : Word) → Opened whole frames from → FixedFits fixed frames → IsAccessor kinded own →
      here at (static_before fixed) from a → name own a (token ∷ now) → Is one token.kind → Holds whole (accessor frames at fixed kinded own token one) now
  accessor_holds frames at fixed kinded own token from a now w.LeftParen h fits ok taken named e = word_key_holds frames at fixed own token from a now w.LeftParen h fits taken named e
  accessor_holds frames at fixed kinded own token from a now w.Colon h fits ok taken named e = word_key_holds frames at fixed own token from a now w.Colon h fits taken named e
  accessor_holds frames at fixed kinded own token from a now w.Comma h fits ok taken named e = word_key_holds frames at fixed own token from a now w.Comma h fits taken named e
  accessor_holds frames at fixed kinded own token from a now w.RightBrace h fits ok taken named e = word_key_holds frames at fixed own token from a now w.RightBrace h fits taken named e
  accessor_holds frames at fixed kinded own token from a now _ h fits ok (place, static) named e =
      key_kind_holds frames at fixed kinded token from now token.kind h (fits, accessor_function kinded own ok) (place, (a, static, accessor_read kinded own a (token ∷ now) ok named))
      (λ free plain. absurd (subst (λ u. IsAccessor u own) plain ok)) refl

  fixed_member_holds : (frames : Frames) (at : ℕ) (token : Token) (from now : Tokens) (one : Word) → Opened whole frames from → FixedFits true frames → here at (the "static") from (token ∷ now) → Is one token.kind →
      Holds whole (fixed_member frames at token one) now
  fixed_member_holds frames at token from now w.LeftParen h fits (place, taken) e =
      key_next_holds frames (start_of at false kind.Method (p.key (t.KeyWord (codes "static")))) None token from now w.LeftParen h (free_of_static frames, tt) (place, (from, refl, (from, refl, read_static_key from (token ∷ now) taken))) tt e
  fixed_member_holds frames at token from now _ h fits taken e = member_start_holds frames at true token from now h fits taken

  object_member_holds : (frames : Frames) (at : ℕ) (members : Sorted (t.list t.member)) (token : Token) (now : Tokens) (one : Word) → Opened whole (f.Member (m.Object at members) ∷ frames) (token ∷ now) → Is one token.kind →
      Holds whole (object_member frames at members token one) now
  object_member_holds frames at members token now w.RightBrace (start, opened, low, (b, brace, taken)) e = (start, opened, low, omega (arith, low), read_object at members start b (token ∷ now) now brace taken (e, refl))
  object_member_holds frames at members token now _ h e = member_start_holds (f.Member (m.Object at members) ∷ frames) token.at false token (token ∷ now) now h refl (refl, refl)

  class_member_holds : (frames : Frames) (start : ClassStart) (members : Sorted (t.list t.member)) (token : Token) (now : Tokens) (one : Word) → Opened whole (f.Member (m.Class start members) ∷ frames) (token ∷ now) → Is one token.kind →
      Holds whole (class_member frames start members token one) now
  class_member_holds frames start members token now w.RightBrace h e = class_end_holds whole frames start members (token ∷ now) now h (e, refl)
  class_member_holds frames start members token now w.Semicolon (from, opened, fits, (b, before, taken)) e =
      (now, (from, opened, fits, (b, before, read_class_semicolon (is_derived start) members b (token ∷ now) now taken (e, refl))), tt, refl)
  class_member_holds frames start members token now w.Static h e = (token ∷ now, h, tt, (refl, (e, refl)))
  class_member_holds frames start members token now _ h e = member_start_holds (f.Member (m.Class start members) ∷ frames) token.at false token (token ∷ now) now h tt (refl, refl)

  member_due_holds : (frames : Frames) (token : Token) (now : Tokens) → Opened whole frames (token ∷ now) → Holds whole (member_due frames token) now
  member_due_holds (f.Member (m.Object at members) ∷ frames) token now h = object_member_holds frames at members token now (the_word token) h (kind_is token.kind)
  member_due_holds (f.Member (m.Class start members) ∷ frames) token now h = class_member_holds frames start members token now (the_word token) h (kind_is token.kind)
  member_due_holds _ token now h = tt

  member_next_holds : (frames : Frames) (token : Token) (now : Tokens) (one : Word) → NextHolds whole frames (token ∷ now) → Is one token.kind → Holds whole (member_next frames one) now
  member_next_holds (f.Member (m.Object at members) ∷ frames) token now w.Comma (from, opened, low, (b, brace, taken)) e =
      (now, (from, opened, low, (b, brace, read_members_comma members b (token ∷ now) now taken (e, refl))), tt, refl)
  member_next_holds (f.Member (m.Object at members) ∷ frames) token now w.RightBrace (from, opened, low, (b, brace, taken)) e =
      (from, opened, low, omega (arith, low), read_joined_object at members from b (token ∷ now) now brace taken (e, refl))
  member_next_holds (f.Member (m.Object at members) ∷ frames) token now _ h e = tt
  member_next_holds _ token now one h e = absurd h

  -- Functions and classes.

  function_name_holds : (frames : Frames) (at : ℕ) (stands : Role) (token : Token) (from now : Tokens) (what : TokenKind) (one : Word) → Opened whole frames from → RoleFits stands frames → BehindRole stands (here at (the "function")) from (token ∷ now) →
      token.kind ≡ what → Is one token.kind → Holds whole (function_name frames at stands what token.at one) now
  function_name_holds frames at stands token from now (k.Name text) one h fits taken q e = (from, h, fits, (named_some stands (ident token.at text), (token ∷ now, taken, ((q, refl), refl))))
  function_name_holds frames at role.Statement token from now what one h fits taken q e = tt
  function_name_holds frames at role.Expression token from now what w.LeftParen h fits taken q e = (from, h, fits, (now, (token ∷ now, (tt, (token ∷ now, taken, refl)), (e, refl)), refl))
  function_name_holds frames at (role.Default place) token from now what w.LeftParen h fits taken q e = (from, h, fits, (now, (token ∷ now, (tt, (token ∷ now, taken, refl)), (e, refl)), refl))
  function_name_holds frames at stands token from now what _ h fits taken q e = tt

  parameter_end_holds : (frames : Frames) (signature : Signature) (list : List Identifier) (token : Token) (from now : Tokens) (one : Word) → Opened whole frames from → SignatureFits signature frames → MemberTaken (md.Parameter signature list) from (token ∷ now) →
      Is one token.kind → Holds whole (parameter_end frames signature list one) now
  parameter_end_holds frames signature list token from now w.RightParen h fits (b, before, taken) e =
      split (λ st. Holds whole st now) (is_setter_of signature) _ _ (λ q. tt)
      (λ q. (from, h, fits, (token ∷ now, (b, before, parameters_over (kind_of signature) list b (token ∷ now) (sym (setter_is signature) ∙ q) taken), (e, refl))))
  parameter_end_holds frames signature list token from now _ h fits taken e = tt

  parameter_holds : (frames : Frames) (signature : Signature) (list : List Identifier) (token : Token) (from now : Tokens) (what : TokenKind) (one : Word) → Opened whole frames from → SignatureFits signature frames →
      MemberTaken (md.Parameter signature list) from (token ∷ now) → token.kind ≡ what → Is one token.kind → Holds whole (parameter frames signature list what token.at one) now
  parameter_holds frames signature list token from now (k.Name text) one h fits (b, before, taken) q e =
      split (λ st. Holds whole st now) (is_getter_of signature) _ _ (λ c. tt)
      (λ c. (from, h, fits, (b, before, parameters_more (kind_of signature) list (ident token.at text) b (token ∷ now) now (sym (getter_is signature) ∙ c) taken ((q, refl), refl))))
  parameter_holds frames signature list token from now _ one h fits taken q e = parameter_end_holds frames signature list token from now one h fits taken e

  parameter_next_holds : (frames : Frames) (signature : Signature) (list : List Identifier) (token : Token) (from now : Tokens) (one : Word) → Opened whole frames from → SignatureFits signature frames →
      MemberTaken (md.ParameterNext signature list) from (token ∷ now) → Is one token.kind → Holds whole (parameter_next frames signature list one) now
  parameter_next_holds frames signature list token from now w.RightParen h fits (b, before, taken) e =
      (from, h, fits, (token ∷ now, (b, before, parameters_last (kind_of signature) list b (token ∷ now) taken), (e, refl)))
  parameter_next_holds frames signature list token from now w.Comma h fits (b, before, taken) e =
      split (λ st. Holds whole st now) (is_setter_of signature) _ _ (λ q. tt)
      (λ q. (from, h, fits, (b, before, parameters_comma (kind_of signature) list b (token ∷ now) now (sym (setter_is signature) ∙ q) taken (e, refl))))
  parameter_next_holds frames signature list token from now _ h fits taken e = tt

  class_next_holds : (frames : Frames) (at : ℕ) (own : Option Identifier) (stands : Role) (token : Token) (from now : Tokens) (one : Word) → Opened whole frames from → RoleFits stands frames → ClassHead at own stands from (token ∷ now) →
      Is one token.kind → Holds whole (class_next frames at own stands one) now
  class_next_holds frames at own stands token from now w.Extends h fits taken e = ((from, h, fits, (token ∷ now, taken, (e, refl))), omega arith)
  class_next_holds frames at own stands token from now w.LeftBrace h fits taken e =
      (now, (from, h, fits, (now, (token ∷ now, (token ∷ now, taken, refl), (e, refl)), read_no_class_members false now)), tt, refl)
  class_next_holds frames at own stands token from now _ h fits taken e = tt

  class_name_holds : (frames : Frames) (at : ℕ) (stands : Role) (token : Token) (from now : Tokens) (what : TokenKind) (one : Word) → Opened whole frames from → RoleFits stands frames → BehindRole stands (here at (the "class")) from (token ∷ now) →
      token.kind ≡ what → Is one token.kind → Holds whole (class_name frames at stands what token.at one) now
  class_name_holds frames at stands token from now (k.Name text) one h fits taken q e = (from, h, fits, (named_some stands (ident token.at text), (token ∷ now, taken, ((q, refl), refl))))
  class_name_holds frames at role.Statement token from now what one h fits taken q e = tt
  class_name_holds frames at role.Expression token from now what one h fits taken q e = class_next_holds frames at None role.Expression token from now one h fits (tt, (token ∷ now, taken, refl)) e
  class_name_holds frames at (role.Default place) token from now what one h fits taken q e = class_next_holds frames at None (role.Default place) token from now one h fits (tt, (token ∷ now, taken, refl)) e

  pub member_step_holds : (due : MemberDue) (frames : Frames) (token : Token) (now : Tokens) → MemberHolds whole due frames (token ∷ now) → Holds whole (member_step due frames token) now
  member_step_holds md.Member frames token now (from, h, fits, same) = member_due_holds frames token now (subst (λ u. Opened whole frames u) same h)
  member_step_holds md.Next frames token now h = member_next_holds frames token now (the_word token) h (kind_is token.kind)
  member_step_holds (md.Fixed at) frames token now (from, h, fits, taken) = fixed_member_holds frames at token from now (the_word token) h fits taken (kind_is token.kind)
  member_step_holds (md.Accessor at fixed kinded own) frames token now (from, h, (fits, ok), (place, (a, static, named))) =
      accessor_holds frames at fixed kinded own token from a now (the_word token) h fits ok (place, static) named (kind_is token.kind)
  member_step_holds (md.Key start short) frames token now (from, h, fits, (taken, alone)) = key_next_holds frames start short token from now (the_word token) h fits taken alone (kind_is token.kind)
  member_step_holds (md.FunctionName at stands) frames token now (from, h, fits, taken) = function_name_holds frames at stands token from now token.kind (the_word token) h fits taken refl (kind_is token.kind)
  member_step_holds (md.Parameters signature) frames token now (from, h, fits, taken) =
      open_paren_by (λ st. Holds whole st now) token (the_word token) _ (kind_is token.kind) (λ e. (from, h, fits, (now, (token ∷ now, taken, (e, refl)), no_parameters (kind_of signature) now))) tt
  member_step_holds (md.Parameter signature list) frames token now (from, h, fits, taken) = parameter_holds frames signature list token from now token.kind (the_word token) h fits taken refl (kind_is token.kind)
  member_step_holds (md.ParameterNext signature list) frames token now (from, h, fits, taken) = parameter_next_holds frames signature list token from now (the_word token) h fits taken (kind_is token.kind)
  member_step_holds (md.Body signature list) frames token now (from, h, fits, taken) =
      open_brace_by (λ st. Holds whole st now) token (the_word token) _ (kind_is token.kind) (λ e. ((from, h, fits, (now, (token ∷ now, taken, (e, refl)), read_no_statements now)), tt)) tt
  member_step_holds (md.ClassName at stands) frames token now (from, h, fits, taken) = class_name_holds frames at stands token from now token.kind (the_word token) h fits taken refl (kind_is token.kind)
  member_step_holds (md.ClassNext at own stands) frames token now (from, h, fits, taken) = class_next_holds frames at own stands token from now (the_word token) h fits taken (kind_is token.kind)
