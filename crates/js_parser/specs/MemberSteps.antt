-- What a token makes of a state in which one of a few tokens is due.
use Rattle.std.specs.Prelude.{ℕ, Bool, true, false, List, [], ◌∷◌, ◌++◌, codes, Option, Some, None, if◌then◌else◌}
use Rattle.es_model.specs.declared.kinds.MemberKind.{MemberKind}
use Rattle.es_model.specs.declared.kinds.MemberKind.TheVariants as member
use Rattle.es_model.specs.declared.names.Identifier.{Identifier}
use Rattle.es_model.specs.declared.token.Token.{Token}
use Rattle.es_model.specs.declared.token.TokenKind.{TokenKind}
use Rattle.es_model.specs.declared.token.TokenKind.TheVariants as k
use Rattle.es_model.specs.Tokens.{same_text}
use Rattle.es_model.specs.Readings.{plain_name}
use Rattle.es_model.specs.Tree as t
use Rattle.es_model.specs.Tree.{Tree, Text}
use Rattle.js_parser.specs.declared.words.Word.{Word}
use Rattle.js_parser.specs.declared.words.Word.TheVariants as w
use Rattle.js_parser.specs.Frame as f
use Rattle.js_parser.specs.Callee as callee
use Rattle.parser_forms.specs.declared.parts.KeyPart.{KeyPart}
use Rattle.js_parser.specs.MemberStart.{MemberStart}
use Rattle.js_parser.specs.ClassStart.{ClassStart}
use Rattle.js_parser.specs.Signature.{Signature}
use Rattle.js_parser.specs.Signature as g
use Rattle.js_parser.specs.declared.frame.Role.{Role}
use Rattle.js_parser.specs.declared.frame.Role.TheVariants as role
use Rattle.js_parser.specs.ExpressionFrame as x
use Rattle.js_parser.specs.MemberFrame as m
use Rattle.js_parser.specs.StatementFrame as s
use Rattle.js_parser.specs.ListRole as l
use Rattle.js_parser.specs.ExpressionDue.{ExpressionDue}
use Rattle.js_parser.specs.ExpressionDue as xd
use Rattle.js_parser.specs.MemberDue.{MemberDue}
use Rattle.js_parser.specs.MemberDue as md
use Rattle.js_parser.specs.Words.{sign_word}
use Rattle.parser_forms.specs.Kept.{Sorted, none}
use Rattle.parser_forms.specs.Parts as p
use Rattle.js_parser.specs.State.{Frames, State, fail, operand_due, read, statement_due, expression_part, member_part, the_word}
use Rattle.js_parser.specs.Ends.{class_end}
use Rattle.js_parser.specs.Begins.{operand}
use Rattle.js_parser.specs.Settle.{object_next}

-- a name that is no keyword
abbrev pub ident : ℕ → Text → Identifier
ident at text = record { at = at; name = text }

-- Expressions.

abbrev pub property : Option Text → (Text → State) → State
property (Some text) make = make text
property None make = fail

-- arguments of `super`, which is no callee of a `new`
abbrev pub super_arguments : Frames → ℕ → State
super_arguments (f.Expression (x.New place) ∷ frames) at = fail
super_arguments frames at = operand_due (f.Expression (x.Arguments (callee.Super at) none) ∷ frames)

abbrev pub super_word : Frames → ℕ → Word → State
super_word frames at w.Point = expression_part (xd.SuperProperty at) frames
super_word frames at w.LeftBracket = operand_due (f.Expression (x.SuperIndex at) ∷ frames)
super_word frames at w.LeftParen = super_arguments frames at
super_word frames at _ = fail

-- `=>` stands on the line of its head
abbrev pub arrow_word : Frames → ℕ → List Identifier → Word → Bool → State
arrow_word frames at parameters w.Arrow false = expression_part (xd.ArrowBody at parameters) frames
arrow_word frames at parameters _ _ = fail

abbrev pub arrow_body : Frames → ℕ → List Identifier → Token → Word → State
arrow_body frames at parameters token w.LeftBrace = statement_due (f.Statement (s.List (l.Arrow at parameters) none) ∷ frames)
arrow_body frames at parameters token _ = operand (f.Expression (x.Arrow at parameters) ∷ frames) token

abbrev pub expression_step : ExpressionDue → Frames → Token → State
expression_step (xd.Property part) frames token = property (plain_name token.kind) (λ text. read (p.dot part text) frames)
expression_step (xd.Super at) frames token = super_word frames at (the_word token)
expression_step (xd.SuperProperty at) frames token = property (plain_name token.kind) (λ text. read (p.super_dot at text) frames)
expression_step (xd.Arrow at parameters) frames token = arrow_word frames at parameters (the_word token) token.line_before
expression_step (xd.ArrowBody at parameters) frames token = arrow_body frames at parameters token (the_word token)

-- Members.

abbrev pub start_of : ℕ → Bool → MemberKind → KeyPart → MemberStart
start_of at fixed kind key = record { at = at; fixed = fixed; kind = kind; key = key }

abbrev pub keyed : Frames → ℕ → Bool → MemberKind → Tree t.key → Option Identifier → State
keyed frames at fixed kind key short = member_part (md.Key (start_of at fixed kind (p.key key)) short) frames

abbrev pub keyword_key : Frames → ℕ → Bool → MemberKind → Option Text → State
keyword_key frames at fixed kind (Some text) = keyed frames at fixed kind (t.KeyWord text) None
keyword_key frames at fixed kind None = fail

abbrev pub sign_key : Frames → ℕ → Bool → MemberKind → Word → State
sign_key frames at fixed kind w.LeftBracket = operand_due (f.Member (m.Key at fixed kind) ∷ frames)
sign_key frames at fixed kind _ = fail

-- a key; `get` and `set` are names here
abbrev pub key_kind : Frames → ℕ → Bool → MemberKind → ℕ → TokenKind → State
key_kind frames at fixed kind place (k.Name text) = keyed frames at fixed kind (t.KeyWord text) (Some (ident place text))
key_kind frames at fixed kind place (k.Keyword number) = keyword_key frames at fixed kind (plain_name (k.Keyword number))
key_kind frames at fixed kind place (k.String text) = keyed frames at fixed kind (t.KeyString text) None
key_kind frames at fixed kind place (k.Number number) = keyed frames at fixed kind (t.KeyNumber number) None
key_kind frames at fixed kind place (k.Sign number) = sign_key frames at fixed kind (sign_word number)
key_kind frames at fixed kind place _ = fail

-- the beginning of a member: `get` and `set` may be the word of an accessor
abbrev pub name_start : Frames → ℕ → Bool → ℕ → Text → State
name_start frames at fixed place text =
    if same_text text (codes "get") then member_part (md.Accessor at fixed member.Getter (ident place text)) frames else
    (if same_text text (codes "set") then member_part (md.Accessor at fixed member.Setter (ident place text)) frames else
    key_kind frames at fixed member.Method place (k.Name text))

abbrev pub member_kind : Frames → ℕ → Bool → ℕ → TokenKind → State
member_kind frames at fixed place (k.Name text) = name_start frames at fixed place text
member_kind frames at fixed place kind = key_kind frames at fixed member.Method place kind

abbrev pub member_start : Frames → ℕ → Bool → Token → State
member_start frames at fixed token = member_kind frames at fixed token.at token.kind

abbrev pub parameters_of : MemberStart → Frames → State
parameters_of start frames = member_part (md.Parameter (g.Method start) []) frames

-- behind the key of a member of an object literal
abbrev pub object_key : Frames → MemberStart → Option Identifier → MemberKind → Word → State
object_key frames start short kind w.LeftParen = parameters_of start frames
object_key frames start short member.Method w.Colon = operand_due (f.Member (m.Value start) ∷ frames)
object_key frames start (Some one) member.Method w.Comma = object_next frames (p.short_member one) w.Comma
object_key frames start (Some one) member.Method w.RightBrace = object_next frames (p.short_member one) w.RightBrace
object_key frames start short kind _ = fail

abbrev pub class_key : Frames → MemberStart → Word → State
class_key frames start w.LeftParen = parameters_of start frames
class_key frames start _ = fail

abbrev pub key_next : Frames → MemberStart → Option Identifier → Word → State
key_next (f.Member (m.Object at members) ∷ frames) start short word = object_key (f.Member (m.Object at members) ∷ frames) start short start.kind word
key_next frames start short word = class_key frames start word

-- behind `get` or `set`: it is the key itself, or the word of an accessor
abbrev pub accessor : Frames → ℕ → Bool → MemberKind → Identifier → Token → Word → State
accessor frames at fixed kind one token w.LeftParen = key_next frames (start_of at fixed member.Method (p.key (t.KeyWord one.name))) (Some one) w.LeftParen
accessor frames at fixed kind one token w.Colon = key_next frames (start_of at fixed member.Method (p.key (t.KeyWord one.name))) (Some one) w.Colon
accessor frames at fixed kind one token w.Comma = key_next frames (start_of at fixed member.Method (p.key (t.KeyWord one.name))) (Some one) w.Comma
accessor frames at fixed kind one token w.RightBrace = key_next frames (start_of at fixed member.Method (p.key (t.KeyWord one.name))) (Some one) w.RightBrace
accessor frames at fixed kind one token _ = key_kind frames at fixed kind token.at token.kind

-- behind `static`: it is the key itself, or it marks the member
abbrev pub fixed_member : Frames → ℕ → Token → Word → State
fixed_member frames at token w.LeftParen = key_next frames (start_of at false member.Method (p.key (t.KeyWord (codes "static")))) None w.LeftParen
fixed_member frames at token _ = member_start frames at true token

abbrev pub object_member : Frames → ℕ → Sorted (t.list t.member) → Token → Word → State
object_member frames at members token w.RightBrace = read (p.object at members) frames
object_member frames at members token _ = member_start (f.Member (m.Object at members) ∷ frames) token.at false token

abbrev pub class_member : Frames → ClassStart → Sorted (t.list t.member) → Token → Word → State
class_member frames start members token w.RightBrace = class_end frames start members
class_member frames start members token w.Semicolon = member_part md.Member (f.Member (m.Class start members) ∷ frames)
class_member frames start members token w.Static = member_part (md.Fixed token.at) (f.Member (m.Class start members) ∷ frames)
class_member frames start members token _ = member_start (f.Member (m.Class start members) ∷ frames) token.at false token

abbrev pub member_due : Frames → Token → State
member_due (f.Member (m.Object at members) ∷ frames) token = object_member frames at members token (the_word token)
member_due (f.Member (m.Class start members) ∷ frames) token = class_member frames start members token (the_word token)
member_due _ token = fail

-- behind a method of an object literal
abbrev pub member_next : Frames → Word → State
member_next frames w.Comma = member_part md.Member frames
member_next (f.Member (m.Object at members) ∷ frames) w.RightBrace = read (p.object at members) frames
member_next _ _ = fail

-- Functions and classes.

-- a getter has no parameter; a setter has one, with no comma behind it

abbrev pub is_setter : MemberKind → Bool
is_setter member.Setter = true
is_setter _ = false

abbrev pub is_setter_of : Signature → Bool
is_setter_of (g.Method start) = is_setter start.kind
is_setter_of (g.Function at own stands) = false

abbrev pub is_getter : MemberKind → Bool
is_getter member.Getter = true
is_getter _ = false

abbrev pub is_getter_of : Signature → Bool
is_getter_of (g.Method start) = is_getter start.kind
is_getter_of (g.Function at own stands) = false

abbrev pub function_name : Frames → ℕ → Role → TokenKind → ℕ → Word → State
function_name frames at stands (k.Name text) place word = member_part (md.Parameters (g.Function at (Some (ident place text)) stands)) frames
function_name frames at role.Statement kind place word = fail
function_name frames at stands kind place w.LeftParen = member_part (md.Parameter (g.Function at None stands) []) frames
function_name frames at stands kind place _ = fail

abbrev pub parameter_end : Frames → Signature → List Identifier → Word → State
parameter_end frames signature parameters w.RightParen = if is_setter_of signature then fail else member_part (md.Body signature parameters) frames
parameter_end frames signature parameters _ = fail

abbrev pub parameter : Frames → Signature → List Identifier → TokenKind → ℕ → Word → State
parameter frames signature parameters (k.Name text) place word =
    if is_getter_of signature then fail else member_part (md.ParameterNext signature (parameters ++ ident place text ∷ [])) frames
parameter frames signature parameters kind place word = parameter_end frames signature parameters word

abbrev pub parameter_next : Frames → Signature → List Identifier → Word → State
parameter_next frames signature parameters w.RightParen = member_part (md.Body signature parameters) frames
parameter_next frames signature parameters w.Comma = if is_setter_of signature then fail else member_part (md.Parameter signature parameters) frames
parameter_next frames signature parameters _ = fail

abbrev pub class_next : Frames → ℕ → Option Identifier → Role → Word → State
class_next frames at own stands w.Extends = operand_due (f.Member (m.Parent at own stands) ∷ frames)
class_next frames at own stands w.LeftBrace = member_part md.Member (f.Member (m.Class (record { at = at; name = own; role = stands; parent = None }) none) ∷ frames)
class_next frames at own stands _ = fail

abbrev pub class_name : Frames → ℕ → Role → TokenKind → ℕ → Word → State
class_name frames at stands (k.Name text) place word = member_part (md.ClassNext at (Some (ident place text)) stands) frames
class_name frames at role.Statement kind place word = fail
class_name frames at stands kind place word = class_next frames at None stands word

abbrev pub open_paren : State → Word → State
open_paren st w.LeftParen = st
open_paren st _ = fail

abbrev pub open_brace : State → Word → State
open_brace st w.LeftBrace = st
open_brace st _ = fail

abbrev pub member_step : MemberDue → Frames → Token → State
member_step md.Member frames token = member_due frames token
member_step md.Next frames token = member_next frames (the_word token)
member_step (md.Fixed at) frames token = fixed_member frames at token (the_word token)
member_step (md.Accessor at fixed kind one) frames token = accessor frames at fixed kind one token (the_word token)
member_step (md.Key start short) frames token = key_next frames start short (the_word token)
member_step (md.FunctionName at stands) frames token = function_name frames at stands token.kind token.at (the_word token)
member_step (md.Parameters signature) frames token = open_paren (member_part (md.Parameter signature []) frames) (the_word token)
member_step (md.Parameter signature parameters) frames token = parameter frames signature parameters token.kind token.at (the_word token)
member_step (md.ParameterNext signature parameters) frames token = parameter_next frames signature parameters (the_word token)
member_step (md.Body signature parameters) frames token = open_brace (statement_due (f.Statement (s.List (l.Function signature parameters) none) ∷ frames)) (the_word token)
member_step (md.ClassName at stands) frames token = class_name frames at stands token.kind token.at (the_word token)
member_step (md.ClassNext at own stands) frames token = class_next frames at own stands (the_word token)
