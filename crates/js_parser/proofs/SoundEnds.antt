-- A form that is complete is put into the form round it: what was taken still stands for the tokens.
use Rattle.std.proofs.Common.{◌≡◌, sym, subst, refl, ℕ, Bool, true, false, List, [], ◌∷◌, Option, Some, None, arith, true≢false}
use Rattle.es_model.specs.declared.kinds.FunctionKind.TheVariants as kind
use Rattle.es_model.specs.declared.names.Identifier.{Identifier}
use Rattle.es_model.specs.declared.token.Token.{Token}
use Rattle.es_model.specs.declared.token.TokenKind.TheVariants as k
use Rattle.es_model.specs.Tree as t
use Rattle.std.specs.Prelude.{if◌then◌else◌}
use Rattle.es_model.specs.Readings.{Tokens, word, the}
use Rattle.js_parser.specs.declared.words.Word.{Word}
use Rattle.js_parser.specs.declared.words.Word.TheVariants as w
use Rattle.js_parser.specs.declared.frame.Role.{Role}
use Rattle.js_parser.specs.declared.frame.Role.TheVariants as role
use Rattle.js_parser.specs.MemberStart.{MemberStart}
use Rattle.js_parser.specs.ClassStart.{ClassStart}
use Rattle.js_parser.specs.Signature.{Signature}
use Rattle.js_parser.specs.Signature as g
use Rattle.js_parser.specs.Frame as f
use Rattle.js_parser.specs.MemberFrame as m
use Rattle.js_parser.specs.StatementFrame as s
use Rattle.js_parser.specs.ItemFrame as n
use Rattle.js_parser.specs.ListRole.{ListRole}
use Rattle.js_parser.specs.ListRole as l
use Rattle.parser_forms.specs.Kept.{Sorted}
use Rattle.parser_forms.specs.Parts as p
use Rattle.js_parser.specs.Ends.{put_item, put, method, is_derived, method_end, function_end, class_end_as, class_end, switch_end, with_case, case_start, next_case, list_end, braces_end, module_end}
use Rattle.parser_forms.specs.Parts.{method_kind}
use Rattle.js_parser.specs.State.{Frames}
use Rattle.js_parser.proofs.WordLaws.{Is}
use Rattle.js_parser.proofs.SoundStates.{Opened, Holds, Takes, RoleFits, StartFits, SignatureFits, DefaultFits, ListFits, ReadItem, ReadItems, ReadLine, ReadBraces, ReadStatements, ParametersTaken, CaseBefore, ListBefore, MemberOpen, opener, ◌⊳◌}
use Rattle.js_parser.proofs.SoundForms.{read_arrow_statements}
use Rattle.js_parser.proofs.SoundMemberForms.{read_function_expression, read_function_statement, read_function_default, read_object_method, read_class_method, read_members_last, read_class_more, read_class_expression, read_class_statement, read_class_default}
use Rattle.js_parser.proofs.SoundStatementForms.{read_statements_more, read_inner, read_block, read_if, read_while, read_for, read_try_finally, read_default_more, read_case_more, read_switch, read_items_more, read_plain_item, read_exported_item}

-- either side of a test
pub split : {A : Type 0} (P : A → Type 0) (b : Bool) (x y : A) → (b ≡ true → P x) → (b ≡ false → P y) → P (if b then x else y)
split P true x y f g = f refl
split P false x y f g = g refl

-- a statement, where it is known whether it is a declaration
declaring : (one other short : Bool) (line : Sorted t.statement) (from to : Tokens) → one ≡ other → ReadLine one short line from to → ReadLine other short line from to
declaring one other short line from to e r = subst (λ b. ReadLine b short line from to) e r

module _ (whole : Tokens) where
  pub put_item_holds : (frames : Frames) (one : Sorted t.item) (from now : Tokens) → Opened whole frames from → ReadItem one from now → Holds whole (put_item frames one) now
  put_item_holds (f.Item (n.Module items) ∷ frames) one from now (start, opened, fits, taken) r = ((start, opened, tt, read_items_more items one start from now taken r), tt)
  put_item_holds _ one from now h r = tt

  pub put_holds : (declares : Bool) (frames : Frames) (line : Sorted t.statement) (from now : Tokens) → Takes frames declares → Opened whole frames from → ReadLine declares false line from now → Holds whole (put frames line) now
  put_holds declares (f.Statement (s.List stands list) ∷ frames) line from now takes (start, opened, fits, (a, before, taken)) r =
      ((start, opened, fits, (a, before, read_statements_more declares false list line a from now taken r)), tt)
  put_holds declares (f.Statement (s.Yes test) ∷ frames) line from now takes (start, opened, fits, taken) r = (start, opened, fits, (from, taken, declaring declares false false line from now takes r))
  put_holds declares (f.Statement (s.No test first) ∷ frames) line from now takes (start, opened, fits, taken) r =
      put_holds false frames (p.choice test first (Some line)) start now fits opened (read_if false test first line start from now taken (declaring declares false false line from now takes r))
  put_holds declares (f.Statement (s.While test) ∷ frames) line from now takes (start, opened, fits, taken) r =
      put_holds false frames (p.while_loop test line) start now fits opened (read_while false test line start from now taken (declaring declares false false line from now takes r))
  put_holds declares (f.Statement (s.For head test each) ∷ frames) line from now takes (start, opened, fits, taken) r =
      put_holds false frames (p.for_loop head test each line) start now fits opened (read_for false head test each line start from now taken (declaring declares false false line from now takes r))
  put_holds declares (f.Statement s.Do ∷ frames) line from now takes (start, opened, fits, taken) r =
      (start, opened, fits, (from, taken, read_inner false line from now (declaring declares false false line from now takes r)))
  put_holds declares (f.Item (n.Module items) ∷ frames) line from now takes h r = put_item_holds (f.Item (n.Module items) ∷ frames) (p.plain_item line) from now h (read_plain_item declares false line from now r)
  put_holds declares (f.Item n.Export ∷ frames) line from now takes (start, opened, fits, taken) r =
      put_item_holds frames (p.exported_item line) start now opened (read_exported_item false line start from now taken (declaring declares true false line from now takes r))
  put_holds declares _ line from now takes h r = tt

  -- Functions and classes.

  method_end_holds : (frames : Frames) (start : MemberStart) (list : List Identifier) (body : Sorted (t.list t.statement)) (from a now : Tokens) → StartFits start.fixed start.kind frames → Opened whole frames from →
      ParametersTaken (g.Method start) list from a → ReadBraces body a now → Holds whole (method_end frames start list body) now
  method_end_holds (f.Member (m.Object at members) ∷ frames) start list body from a now (free, ok) (first, opened, fits, (b, brace, taken)) head r =
      (first, opened, fits, (b, brace, read_members_last members (method start (method_kind start.kind true false false) list body) b from now taken (read_object_method start list body from a now ok free head r)))
  method_end_holds (f.Member (m.Class class members) ∷ frames) start list body from a now (free, ok) (first, opened, fits, (b, before, taken)) head r = (
    now,
    (
      first,
      opened,
      fits,
      (
        b,
        before,
        read_class_more (is_derived class) members (method start (method_kind start.kind start.fixed start.key.is_constructor (is_derived class)) list body) b from now taken
            (read_class_method (is_derived class) start list body from a now ok head r),
      ),
    ),
    tt,
    refl,
  )
  method_end_holds _ start list body from a now fits h head r = tt

  pub function_end_holds : (frames : Frames) (signature : Signature) (list : List Identifier) (body : Sorted (t.list t.statement)) (from a now : Tokens) → SignatureFits signature frames → Opened whole frames from →
      ParametersTaken signature list from a → ReadBraces body a now → Holds whole (function_end frames signature list body) now
  function_end_holds frames (g.Function at own role.Expression) list body from a now fits h head r = (from, h, fits, omega (arith, fits), read_function_expression at own list body from a now head r)
  function_end_holds frames (g.Function at own role.Statement) list body from a now fits h head r =
      put_holds true frames (p.function_statement (p.function at own kind.Plain list body)) from now fits h (read_function_statement at own list body from a now head r)
  function_end_holds frames (g.Function at own (role.Default place)) list body from a now fits h head r =
      put_item_holds frames (p.default_function place (p.function at own kind.Plain list body)) from now h (read_function_default at own place list body from a now head r)
  function_end_holds frames (g.Method start) list body from a now fits h head r = method_end_holds frames start list body from a now fits h head r

  class_end_as_holds : (frames : Frames) (stands : Role) (at : ℕ) (own : Option Identifier) (parent : Option (Sorted t.expression)) (members : Sorted (t.list t.member)) (from a now : Tokens) → RoleFits stands frames → Opened whole frames from →
      MemberOpen (m.Class (record { at = at; name = own; role = stands; parent = parent }) members) from a → the "}" a now → Holds whole (class_end_as frames stands at (p.class at own parent members)) now
  class_end_as_holds frames role.Expression at own parent members from a now fits h taken c = (from, h, fits, omega (arith, fits), read_class_expression at own parent members from a now taken c)
  class_end_as_holds frames role.Statement at own parent members from a now fits h taken c =
      put_holds true frames (p.class_statement (p.class at own parent members)) from now fits h (read_class_statement at own parent members from a now taken c)
  class_end_as_holds frames (role.Default place) at own parent members from a now fits h taken c =
      put_item_holds frames (p.default_class place (p.class at own parent members)) from now h (read_class_default at place own parent members from a now taken c)

  pub class_end_holds : (frames : Frames) (start : ClassStart) (members : Sorted (t.list t.member)) (a now : Tokens) → Opened whole (f.Member (m.Class start members) ∷ frames) a → the "}" a now → Holds whole (class_end frames start members) now
  class_end_holds frames start members a now (from, opened, fits, taken) c = class_end_as_holds frames start.role start.at start.name start.parent members from a now fits opened taken c

  -- Switches.

  -- the forms from a switch on
  abbrev pub InSwitch : Frames → Tokens → Type 0
  InSwitch (f.Statement (s.Switch of cases has_default) ∷ frames) now = Opened whole (f.Statement (s.Switch of cases has_default) ∷ frames) now
  InSwitch _ now = Unit {0}

  pub in_switch : (frames : Frames) (now : Tokens) → Opened whole frames now → InSwitch frames now
  in_switch (f.Statement (s.Switch of cases has_default) ∷ frames) now h = h
  in_switch _ now h = tt

  pub switch_end_holds : (frames : Frames) (a now : Tokens) → InSwitch frames a → the "}" a now → Holds whole (switch_end frames) now
  switch_end_holds (f.Statement (s.Switch of cases has_default) ∷ frames) a now (from, opened, fits, taken) c = put_holds false frames (p.switch of cases) from now fits opened (read_switch of cases has_default from a now taken c)
  switch_end_holds _ a now h c = tt

  with_case_opened : (test : Option (Sorted t.expression)) (body : Sorted (t.list t.statement)) (frames : Frames) (from a now : Tokens) → DefaultFits test frames → Opened whole frames from → CaseBefore test from a →
      (the ":" ⊳ ReadStatements body) a now → InSwitch (with_case test body frames) now
  with_case_opened None body (f.Statement (s.Switch of cases true) ∷ frames) from a now fits h before r = absurd (true≢false fits)
  with_case_opened None body (f.Statement (s.Switch of cases false) ∷ frames) from a now fits (start, opened, takes, (b, begins, taken)) before r =
      (start, opened, takes, (b, begins, read_default_more cases body b from a now taken before r))
  with_case_opened (Some test) body (f.Statement (s.Switch of cases true) ∷ frames) from a now fits (start, opened, takes, (b, begins, taken)) before r =
      (start, opened, takes, (b, begins, read_case_more true cases test body b from a now taken before r))
  with_case_opened (Some test) body (f.Statement (s.Switch of cases false) ∷ frames) from a now fits (start, opened, takes, (b, begins, taken)) before r =
      (start, opened, takes, (b, begins, read_case_more false cases test body b from a now taken before r))
  with_case_opened test body _ from a now fits h before r = tt

  pub case_start_holds : (frames : Frames) (token : Token) (now : Tokens) (one : Word) → InSwitch frames (token ∷ now) → Is one token.kind → Holds whole (case_start frames one) now
  case_start_holds (f.Statement (s.Switch of cases has_default) ∷ frames) token now w.Case h e = ((token ∷ now, h, tt, (e, refl)), omega arith)
  case_start_holds (f.Statement (s.Switch of cases false) ∷ frames) token now w.Default h e = (token ∷ now, h, refl, (e, refl))
  case_start_holds _ token now _ h e = tt

  pub next_case_holds : (frames : Frames) (token : Token) (now : Tokens) (one : Word) → Opened whole frames (token ∷ now) → Is one token.kind → Holds whole (next_case frames one) now
  next_case_holds (f.Statement (s.List (l.Case test) body) ∷ frames) token now one (from, opened, fits, (b, (a, before, colon), taken)) e =
      case_start_holds (with_case test body frames) token now one (with_case_opened test body frames from a (token ∷ now) fits opened before (b, colon, taken)) e
  next_case_holds _ token now one h e = tt

  -- Lists of statements.

  list_end_holds : (stands : ListRole) (frames : Frames) (list : Sorted (t.list t.statement)) (from a b c now : Tokens) → ListFits stands frames → Opened whole frames from → ListBefore stands from a → the (opener stands) a b →
      ReadStatements list b c → the "}" c now → Holds whole (list_end stands frames list) now
  list_end_holds l.Block frames list from a b c now fits h same brace r close =
      put_holds false frames (p.block list) from now fits h (read_block list from now (c, (b, subst (λ u. the "{" u b) (sym same) brace, r), close))
  list_end_holds l.Try frames list from a b c now fits h before brace r close = (from, h, fits, (a, before, (c, (b, brace, r), close)))
  list_end_holds (l.Catch block own) frames list from a b c now fits h (e, (d, tried, guard), named) brace r close = (from, h, fits, (d, tried, (a, (e, guard, named), (c, (b, brace, r), close))))
  list_end_holds (l.Finally block own catch) frames list from a b c now fits h before brace r close =
      put_holds false frames (p.guarded block own catch (Some list)) from now fits h (read_try_finally block own catch list from a now before (c, (b, brace, r), close))
  list_end_holds (l.Function signature parameters) frames list from a b c now fits h before brace r close =
      function_end_holds frames signature parameters list from a now fits h before (c, (b, brace, r), close)
  list_end_holds (l.Arrow at parameters) frames list from a b c now fits h before brace r close =
      (from, h, omega (arith, fits), fits, read_arrow_statements at parameters list from a now before (c, (b, brace, r), close))
  list_end_holds (l.Case test) frames list from a b c now fits h before colon r close =
      switch_end_holds (with_case test list frames) c now (with_case_opened test list frames from a c fits h before (b, colon, r)) close

  pub braces_end_holds : (frames : Frames) (token : Token) (now : Tokens) → Opened whole frames (token ∷ now) → token.kind ≡ word "}" → Holds whole (braces_end frames) now
  braces_end_holds (f.Statement (s.List stands list) ∷ frames) token now (from, opened, fits, (b, (a, before, brace), taken)) e =
      list_end_holds stands frames list from a b (token ∷ now) now fits opened before brace taken (e, refl)
  braces_end_holds _ token now h e = tt

  -- the end of the text
  pub module_end_holds : (frames : Frames) (token : Token) (now : Tokens) → Opened whole frames (token ∷ now) → token.kind ≡ k.End → Holds whole (module_end frames) now
  module_end_holds (f.Item (n.Module items) ∷ []) token now (from, same, fits, taken) e = (token, e, subst (λ u. ReadItems items u (token ∷ now)) (sym same) taken)
  module_end_holds _ token now h e = tt
