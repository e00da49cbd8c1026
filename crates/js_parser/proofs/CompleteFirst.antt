-- With which tokens expressions and statements begin.
use Rattle.std.proofs.Common.{◌≡◌, sym, subst, refl, Bool, true, false, List, [], ◌∷◌, Some, None, inl, inr}
use Rattle.es_model.specs.declared.kinds.FunctionKind.TheVariants as kind
use Rattle.es_model.specs.declared.kinds.UnaryOperator.{UnaryOperator}
use Rattle.es_model.specs.declared.kinds.UnaryOperator.TheVariants as u
use Rattle.es_model.specs.declared.names.Identifier.{Identifier}
use Rattle.es_model.specs.declared.token.TokenKind.{TokenKind}
use Rattle.es_model.specs.Tree as t
use Rattle.es_model.specs.Tree.{Tree, Text}
use Rattle.es_model.specs.Levels.{unary_sign}
use Rattle.es_model.specs.Readings.{Tokens, One, the, name, word}
use Rattle.es_model.specs.Spelling.{Spells, pieces, step, AsExpression, AsStatement, arrow_names, declaring_word}
use Rattle.js_parser.specs.declared.words.Word.{Word}
use Rattle.js_parser.specs.declared.words.Word.TheVariants as w
use Rattle.js_parser.specs.Words.{word_of}
use Rattle.js_parser.specs.State.{the_word}

-- a word with which an expression may begin
abbrev pub begins : Word → Bool
begins w.Name = true
begins w.Number = true
begins w.String = true
begins w.Template = true
begins w.This = true
begins w.Null = true
begins w.True = true
begins w.False = true
begins w.Super = true
begins w.New = true
begins w.Function = true
begins w.Class = true
begins w.LeftParen = true
begins w.LeftBracket = true
begins w.LeftBrace = true
begins w.PlusPlus = true
begins w.MinusMinus = true
begins w.Exclamation = true
begins w.Plus = true
begins w.Minus = true
begins w.Tilde = true
begins w.Typeof = true
begins w.Void = true
begins w.Delete = true
begins _ = false

-- tokens the first of which has a word for which a test answers true
abbrev pub Starts : (Word → Bool) → Tokens → Type 0
Starts test [] = ⊥
Starts test (token ∷ tokens) = test (the_word token) ≡ true

pub starts_at : (test : Word → Bool) (kind : TokenKind) → test (word_of kind) ≡ true → (from to : Tokens) → One (λ token. token.kind ≡ kind) from to → Starts test from
starts_at test kind h [] to d = absurd d
starts_at test kind h (token ∷ tokens) to d = subst (λ other. test (word_of other) ≡ true) (sym d.0) h

pub starts_name : (test : Word → Bool) → test w.Name ≡ true → (one : Identifier) (from to : Tokens) → name one from to → Starts test from
starts_name test h one [] to d = absurd d
starts_name test h one (token ∷ tokens) to d = subst (λ other. test (word_of other) ≡ true) (sym d.0.0) h

pub starts_more : (one other : Word → Bool) → ((word : Word) → one word ≡ true → other word ≡ true) → (from : Tokens) → Starts one from → Starts other from
starts_more one other h [] d = d
starts_more one other h (token ∷ tokens) d = h (the_word token) d

first_pieces : (texts : List Text) (values : Tree (t.list t.expression)) (from to : Tokens) → pieces true texts (Spells values) from to → Starts begins from
unfolding Spells
first_pieces [] values from to d = absurd d
first_pieces (text ∷ []) t.none from to d = starts_at begins _ refl from to d
first_pieces (text ∷ other ∷ texts) t.none from to d = absurd d
first_pieces (text ∷ texts) (t.more value values) from to d = starts_at begins _ refl from d.0 d.1

first_step : (up : Bool) (from to : Tokens) → step up from to → Starts begins from
unfolding word
first_step true from to d = starts_at begins _ refl from to d
first_step false from to d = starts_at begins _ refl from to d

first_unary : (operator : UnaryOperator) (from to : Tokens) → the (unary_sign operator) from to → Starts begins from
unfolding word
first_unary u.Not from to d = starts_at begins _ refl from to d
first_unary u.Negate from to d = starts_at begins _ refl from to d
first_unary u.Plus from to d = starts_at begins _ refl from to d
first_unary u.BitNot from to d = starts_at begins _ refl from to d

first_head : (parameters : List Identifier) (from to : Tokens) → arrow_names parameters from to → Starts begins from
unfolding word
first_head [] from to d = starts_at begins _ refl from d.0 d.1
first_head (one ∷ []) from to (inl d) = starts_at begins _ refl from d.0 d.1
first_head (one ∷ []) from to (inr d) = starts_name begins refl one from to d
first_head (one ∷ other ∷ rest) from to d = starts_at begins _ refl from d.0 d.1

first_function : (function : Tree t.function) (from to : Tokens) → Spells function AsExpression from to → Starts begins from
unfolding Spells word
first_function (t.FunctionOf at own kind.Plain parameters body) from to d = starts_at begins _ refl from d.1.0 d.1.1
first_function (t.FunctionOf at None kind.Arrow parameters body) from to d = first_head parameters from d.1.0 d.1.1
first_function (t.FunctionOf at (Some own) kind.Arrow parameters body) from to d = absurd d
first_function (t.FunctionOf at own _ parameters body) from to d = absurd d

first_class : (named : Bool) (class : Tree t.class) (from to : Tokens) → Spells class named from to → (test : Word → Bool) → test w.Class ≡ true → Starts test from
unfolding Spells word
first_class named (t.ClassOf at own t.absent members) from to d test h = starts_at test _ h from d.1.0 d.1.1
first_class named (t.ClassOf at own (t.present parent) members) from to d test h = starts_at test _ h from d.1.0 d.1.1

pub first_expression : (e : Tree t.expression) (from to : Tokens) → Spells e from to → Starts begins from
unfolding Spells word
first_expression t.This from to d = starts_at begins _ refl from to d
first_expression t.Null from to d = starts_at begins _ refl from to d
first_expression t.True from to d = starts_at begins _ refl from to d
first_expression t.False from to d = starts_at begins _ refl from to d
first_expression (t.Name one) from to d = starts_name begins refl one from to d
first_expression (t.Number value) from to d = starts_at begins _ refl from to d
first_expression (t.String text) from to d = starts_at begins _ refl from to d
first_expression (t.Template texts values) from to d = first_pieces texts values from to d
first_expression (t.Array items) from to d = starts_at begins _ refl from d.0 d.1
first_expression (t.Object members) from to d = starts_at begins _ refl from d.0 d.1
first_expression (t.Function function) from to d = first_function function from to d
first_expression (t.Class class) from to d = first_class false class from to d begins refl
first_expression (t.Paren of) from to d = starts_at begins _ refl from d.0 d.1
first_expression (t.Dot of text) from to d = first_expression of from d.0 d.1.1
first_expression (t.Index of key) from to d = first_expression of from d.0 d.1.1
first_expression (t.SuperDot at text) from to d = starts_at begins _ refl from d.1.0 d.1.1
first_expression (t.SuperIndex at key) from to d = starts_at begins _ refl from d.1.0 d.1.1
first_expression (t.Call of arguments) from to d = first_expression of from d.0 d.1.1
first_expression (t.New of t.absent) from to d = starts_at begins _ refl from d.0 d.1
first_expression (t.New of (t.present arguments)) from to d = starts_at begins _ refl from d.0 d.1
first_expression (t.SuperCall at arguments) from to d = starts_at begins _ refl from d.1.0 d.1.1
first_expression (t.Update at up true of) from to d = first_step up from d.1.0 d.1.1
first_expression (t.Update at up false of) from to d = first_expression of from d.1.0 d.1.1.1
first_expression (t.Unary operator of) from to d = first_unary operator from d.0 d.1
first_expression (t.Typeof of) from to d = starts_at begins _ refl from d.0 d.1
first_expression (t.Void of) from to d = starts_at begins _ refl from d.0 d.1
first_expression (t.Delete at of) from to d = starts_at begins _ refl from d.1.0 d.1.1
first_expression (t.Binary operator left right) from to d = first_expression left from d.0 d.1.1
first_expression (t.In left right) from to d = first_expression left from d.0 d.1.1
first_expression (t.InstanceOf left right) from to d = first_expression left from d.0 d.1.1
first_expression (t.And left right) from to d = first_expression left from d.0 d.1.1
first_expression (t.Or left right) from to d = first_expression left from d.0 d.1.1.1
first_expression (t.Nullish left right) from to d = first_expression left from d.0 d.1.1
first_expression (t.Conditional test one other) from to d = first_expression test from d.0 d.1.1
first_expression (t.Assign at left operator value) from to d = first_expression left from d.1.0 d.1.1.1
first_expression (t.Comma left right) from to d = first_expression left from d.0 d.1

-- Statements.

-- a word that no statement before it goes on with
abbrev pub is_behind : Word → Bool
is_behind w.Else = false
is_behind w.Finally = false
is_behind w.Catch = false
is_behind _ = true

begins_behind : (word : Word) → begins word ≡ true → is_behind word ≡ true
begins_behind w.Else h = h
begins_behind w.Finally h = h
begins_behind w.Catch h = h
begins_behind _ h = refl

first_declaring : (constant : Bool) (from to : Tokens) → declaring_word constant from to → Starts is_behind from
unfolding word
first_declaring true from to d = starts_at is_behind _ refl from to d
first_declaring false from to d = starts_at is_behind _ refl from to d

first_function_statement : (function : Tree t.function) (from to : Tokens) → Spells function AsStatement from to → Starts is_behind from
unfolding Spells word
first_function_statement (t.FunctionOf at (Some own) kind.Plain parameters body) from to d = starts_at is_behind _ refl from d.1.0 d.1.1
first_function_statement (t.FunctionOf at None kind.Plain parameters body) from to d = absurd d
first_function_statement (t.FunctionOf at own _ parameters body) from to d = absurd d

pub first_statement : (line : Tree t.statement) (from to : Tokens) → Spells line from to → Starts is_behind from
unfolding Spells word
first_statement t.Empty from to d = starts_at is_behind _ refl from to d
first_statement (t.Value value mark) from to d = starts_more begins is_behind begins_behind from (first_expression value from d.0 d.1.1)
first_statement (t.Declare constant names mark) from to d = first_declaring constant from d.1.0 d.1.1
first_statement (t.FunctionStatement function) from to d = first_function_statement function from to d
first_statement (t.ClassStatement class) from to d = first_class true class from to d is_behind refl
first_statement (t.Block statements) from to d = starts_at is_behind _ refl from d.0 d.1
first_statement (t.If test one t.absent) from to d = starts_at is_behind _ refl from d.0 d.1
first_statement (t.If test one (t.present other)) from to d = starts_at is_behind _ refl from d.0 d.1
first_statement (t.For head test each body) from to d = starts_at is_behind _ refl from d.0 d.1
first_statement (t.While test body) from to d = starts_at is_behind _ refl from d.0 d.1
first_statement (t.DoWhile body test mark) from to d = starts_at is_behind _ refl from d.0 d.1
first_statement (t.Break at mark) from to d = starts_at is_behind _ refl from d.1.0 d.1.1
first_statement (t.Continue at mark) from to d = starts_at is_behind _ refl from d.1.0 d.1.1
first_statement (t.Return at t.absent mark) from to d = starts_at is_behind _ refl from d.1.0 d.1.1
first_statement (t.Return at (t.present value) mark) from to d = starts_at is_behind _ refl from d.1.0 d.1.1
first_statement (t.Throw value mark) from to d = starts_at is_behind _ refl from d.0 d.1
first_statement (t.Try block caught catch finally) from to d = starts_at is_behind _ refl from d.1.0 d.1.1
first_statement (t.Switch value cases) from to d = starts_at is_behind _ refl from d.1.0 d.1.1

pub first_item : (one : Tree t.item) (from to : Tokens) → Spells one from to → Starts is_behind from
unfolding Spells word
first_item (t.Import other list mark) from to d = starts_at is_behind _ refl from d.0 d.1
first_item (t.ExportFrom other list mark) from to d = starts_at is_behind _ refl from d.0 d.1
first_item (t.ExportNames list mark) from to d = starts_at is_behind _ refl from d.0 d.1
first_item (t.ExportDeclaration statement) from to d = starts_at is_behind _ refl from d.0 d.1
first_item (t.ExportDefault at value mark) from to d = starts_at is_behind _ refl from d.0 d.1
first_item (t.Plain statement) from to d = first_statement statement from to d
