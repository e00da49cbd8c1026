-- What a state of the machine says of the tokens that were read: each open form has taken its tokens, from the place where it began.
use Rattle.std.proofs.Common.{◌≡◌, ℕ, ◌≤◌, Bool, true, false, List, [], ◌∷◌, Option, Some, None}
use Prim.Native.String.{String}
use Rattle.std.specs.Prelude.{codes}
use Rattle.es_model.specs.declared.kinds.MemberKind.{MemberKind}
use Rattle.es_model.specs.declared.kinds.MemberKind.TheVariants as kind
use Rattle.es_model.specs.declared.names.Identifier.{Identifier}
use Rattle.es_model.specs.declared.names.Pair.{Pair}
use Rattle.es_model.specs.declared.token.Token.{Token}
use Rattle.es_model.specs.declared.token.TokenKind.TheVariants as k
use Rattle.es_model.specs.Tree as t
use Rattle.es_model.specs.Tree.{Tree, Text}
use Rattle.es_model.specs.Levels.{level, assignment_sign, is_declaration, ends_in_short_if, defaults, Holder}
use Rattle.es_model.specs.Readings.{Tokens, Reading, nothing, never, ◌▸◌, ◌∣◌, given, First, the, name, maybe_name, the_name, here, same_line, any_of}
use Rattle.es_model.specs.Spelling.{Spells, step, assigning, arrow_names, one_name, no_name, member_parameters, static_before, accessor_word, declaring_word, Initialised, catch_name, sequence, maybe, are_elements, FunctionUse, class_members, imported, exported_from, exported, braced, default_name, default_list, import_list, module_name}
use Rattle.parser_forms.specs.declared.parts.Part.{Part}
use Rattle.js_parser.specs.Callee.{Callee}
use Rattle.js_parser.specs.Callee as callee
use Rattle.js_parser.specs.declared.frame.Role.{Role}
use Rattle.js_parser.specs.declared.frame.Role.TheVariants as role
use Rattle.parser_forms.specs.declared.parts.KeyPart.{KeyPart}
use Rattle.js_parser.specs.MemberStart.{MemberStart}
use Rattle.js_parser.specs.ClassStart.{ClassStart}
use Rattle.js_parser.specs.Signature.{Signature}
use Rattle.js_parser.specs.Signature as g
use Rattle.js_parser.specs.Frame.{Frame}
use Rattle.js_parser.specs.Frame as f
use Rattle.js_parser.specs.ExpressionFrame.{ExpressionFrame}
use Rattle.js_parser.specs.ExpressionFrame as x
use Rattle.js_parser.specs.MemberFrame.{MemberFrame}
use Rattle.js_parser.specs.MemberFrame as m
use Rattle.js_parser.specs.StatementFrame.{StatementFrame}
use Rattle.js_parser.specs.StatementFrame as s
use Rattle.js_parser.specs.ItemFrame.{ItemFrame}
use Rattle.js_parser.specs.ItemFrame as n
use Rattle.js_parser.specs.ListRole.{ListRole}
use Rattle.js_parser.specs.ListRole as l
use Rattle.js_parser.specs.declared.frame.DeclareRole.{DeclareRole}
use Rattle.js_parser.specs.declared.frame.DeclareRole.TheVariants as d
use Rattle.js_parser.specs.declared.frame.Opening.{Opening}
use Rattle.js_parser.specs.declared.frame.Opening.TheVariants as o
use Rattle.js_parser.specs.declared.frame.Jump.{Jump}
use Rattle.js_parser.specs.declared.frame.Jump.TheVariants as j
use Rattle.js_parser.specs.declared.frame.PairRole.{PairRole}
use Rattle.js_parser.specs.declared.frame.PairRole.TheVariants as pr
use Rattle.js_parser.specs.ExpressionDue.{ExpressionDue}
use Rattle.js_parser.specs.ExpressionDue as xd
use Rattle.js_parser.specs.MemberDue.{MemberDue}
use Rattle.js_parser.specs.MemberDue as md
use Rattle.js_parser.specs.StatementDue.{StatementDue}
use Rattle.js_parser.specs.StatementDue as sd
use Rattle.js_parser.specs.ItemDue.{ItemDue}
use Rattle.js_parser.specs.ItemDue as nd
use Rattle.js_parser.specs.Control.{Control}
use Rattle.js_parser.specs.Control as c
use Rattle.parser_forms.specs.Kept.{Sorted}
use Rattle.js_parser.specs.Cut.{cut}
use Rattle.parser_forms.specs.Parts.{infix_level}
use Rattle.js_parser.specs.Tables.{slot_of}
use Rattle.parser_forms.specs.Asks.{is_left_of, is_base, is_new_callee}
use Rattle.js_parser.specs.Ends.{is_derived}
use Rattle.js_parser.specs.State.{Frames, State, state}
use Rattle.js_parser.specs.Summary.{part_of, key_of, option_of}
use Rattle.js_parser.proofs.WordLaws.{infix_sign, prefix_sign}
use Rattle.js_parser.proofs.SoundLists.{commaed, pieced, commaed_members, joined_members, each_commaed, each_joined}

-- one reading after the other: what a form has taken, and then one thing more
infixl 20 ◌⊳◌
abbrev pub ◌⊳◌ : Reading → Reading → Reading
(before ⊳ last) from to = (mid : Tokens) × before from mid × last mid to

-- a reading, where the next token passes a test
abbrev pub next : (Token → Type 0) → Reading → Reading
next test reading from to = reading from to × First test to

-- What was read, by what is kept of it.

abbrev pub Read : Part → Reading
Read part from to = (e : Tree t.expression) × (part_of part.at e ≡ part) × First (λ token. token.at ≡ part.at) from × Spells e from to

abbrev pub ReadOf : Sorted t.expression → Reading
ReadOf of from to = (e : Tree t.expression) × (cut e ≡ of) × Spells e from to

abbrev pub ReadOption : Option (Sorted t.expression) → Reading
ReadOption of from to = (e : Tree (t.option t.expression)) × (option_of e ≡ of) × maybe (Spells e) from to

abbrev pub ReadElements : Sorted (t.list t.expression) → Reading
ReadElements of from to = (list : Tree (t.list t.expression)) × (cut list ≡ of) × (are_elements list ≡ true) × commaed (Spells list) from to

abbrev pub ReadPieces : List Text → Sorted (t.list t.expression) → Reading
ReadPieces texts of from to = (list : Tree (t.list t.expression)) × (cut list ≡ of) × pieced true texts (Spells list) from to

abbrev pub ReadKey : KeyPart → Reading
ReadKey key from to = (tree : Tree t.key) × (key_of tree ≡ key) × Spells tree from to

abbrev pub ReadMembers : Sorted (t.list t.member) → Reading
ReadMembers of from to = (list : Tree (t.list t.member)) × (cut list ≡ of) × commaed_members (Spells list) from to

abbrev pub ReadJoined : Sorted (t.list t.member) → Reading
ReadJoined of from to = (list : Tree (t.list t.member)) × (cut list ≡ of) × joined_members (Spells list) from to

abbrev pub ReadInClass : Bool → Sorted (t.list t.member) → Reading
ReadInClass derived of from to = (list : Tree (t.list t.member)) × (cut list ≡ of) × class_members derived (Spells list) from to

abbrev pub ReadMember : Holder → Sorted t.member → Reading
ReadMember holder of from to = (tree : Tree t.member) × (cut tree ≡ of) × Spells tree holder from to

abbrev pub ReadFunction : FunctionUse → Sorted t.function → Reading
ReadFunction how of from to = (tree : Tree t.function) × (cut tree ≡ of) × Spells tree how from to

abbrev pub ReadClass : Bool → Sorted t.class → Reading
ReadClass named of from to = (tree : Tree t.class) × (cut tree ≡ of) × Spells tree named from to

abbrev pub ReadStatements : Sorted (t.list t.statement) → Reading
ReadStatements of from to = (list : Tree (t.list t.statement)) × (cut list ≡ of) × sequence (Spells list) from to

-- a statement, and whether it is a declaration and whether it ends in an `if` without an `else`
abbrev pub ReadLine : Bool → Bool → Sorted t.statement → Reading
ReadLine declares short of from to = (tree : Tree t.statement) × (cut tree ≡ of) × (is_declaration tree ≡ declares) × (ends_in_short_if tree ≡ short) × Spells tree from to

-- a statement that stands in another
abbrev pub ReadInner : Sorted t.statement → Reading
ReadInner of from to = (tree : Tree t.statement) × (cut tree ≡ of) × (is_declaration tree ≡ false) × Spells tree from to

abbrev pub ReadDeclarators : Bool → Sorted (t.list t.declarator) → Reading
ReadDeclarators constant of from to = (list : Tree (t.list t.declarator)) × (cut list ≡ of) × Initialised constant list × commaed (Spells list) from to

abbrev pub ReadHead : Sorted t.head → Reading
ReadHead of from to = (tree : Tree t.head) × (cut tree ≡ of) × Spells tree from to

abbrev pub defaults_of : Bool → ℕ
defaults_of true = 1
defaults_of false = 0

abbrev pub ReadCases : Bool → Sorted (t.list t.case) → Reading
ReadCases has_default of from to = (list : Tree (t.list t.case)) × (cut list ≡ of) × (defaults list ≡ defaults_of has_default) × sequence (Spells list) from to

abbrev pub ReadItem : Sorted t.item → Reading
ReadItem of from to = (tree : Tree t.item) × (cut tree ≡ of) × Spells tree from to

abbrev pub ReadItems : Sorted (t.list t.item) → Reading
ReadItems of from to = (list : Tree (t.list t.item)) × (cut list ≡ of) × sequence (Spells list) from to

-- statements in braces
abbrev pub ReadBraces : Sorted (t.list t.statement) → Reading
ReadBraces of = the "{" ⊳ ReadStatements of ⊳ the "}"

-- Functions and classes, as far as they were read.

-- a function's or a class's word, behind those of a default export
abbrev pub BehindRole : Role → Reading → Reading
BehindRole (role.Default place) reading = the "export" ⊳ here place (the "default") ⊳ reading
BehindRole _ reading = reading

abbrev pub NamedAs : Role → Option Identifier → Type 0
NamedAs role.Statement None = ⊥
NamedAs _ _ = Unit {0}

abbrev pub FunctionHead : ℕ → Option Identifier → Role → Reading
FunctionHead at own stands = given (NamedAs stands own) (BehindRole stands (here at (the "function")) ⊳ maybe_name own)

abbrev pub ClassHead : ℕ → Option Identifier → Role → Reading
ClassHead at own stands = given (NamedAs stands own) (BehindRole stands (here at (the "class")) ⊳ maybe_name own)

-- the expression behind `extends`
abbrev pub ReadParent : Option (Sorted t.expression) → Reading
ReadParent None = nothing
ReadParent (Some of) = the "extends" ⊳ (λ from to. (e : Tree t.expression) × (cut e ≡ of) × (17 ≤ level e) × Spells e from to)

abbrev pub ClassTaken : ClassStart → Reading
ClassTaken start = ClassHead start.at start.name start.role ⊳ ReadParent start.parent

-- a member up to its key, and with it
abbrev pub MemberBefore : ℕ → Bool → MemberKind → Reading
MemberBefore at fixed kind = here at (static_before fixed ▸ accessor_word kind)

abbrev pub StartTaken : MemberStart → Reading
StartTaken start = here start.at (static_before start.fixed ▸ accessor_word start.kind ▸ ReadKey start.key)

-- a name that may stand alone as a member
abbrev pub ShortIs : Option Identifier → Bool → MemberKind → Reading
ShortIs None fixed kind from to = Unit {0}
ShortIs (Some one) false kind.Method from to = name one from to
ShortIs (Some one) _ _ from to = Unit {0}

abbrev pub SignatureTaken : Signature → Reading
SignatureTaken (g.Function at own stands) = FunctionHead at own stands
SignatureTaken (g.Method start) = StartTaken start

abbrev pub kind_of : Signature → MemberKind
kind_of (g.Function at own stands) = kind.Method
kind_of (g.Method start) = start.kind

-- parameters where one more or the end is due, and behind one
abbrev pub PartParameters : MemberKind → List Identifier → Reading
PartParameters kind.Getter list = no_name list
PartParameters kind.Setter list = no_name list
PartParameters _ list = each_commaed name list

abbrev pub NextParameters : MemberKind → List Identifier → Reading
NextParameters kind.Getter list = never
NextParameters kind.Setter list = one_name list
NextParameters _ list = each_joined name list

abbrev pub ParametersTaken : Signature → List Identifier → Reading
ParametersTaken signature list = SignatureTaken signature ⊳ the "(" ⊳ member_parameters (kind_of signature) list ⊳ the ")"

abbrev pub ArrowTaken : ℕ → List Identifier → Reading
ArrowTaken at list = here at (arrow_names list ▸ same_line (the "=>"))

-- Lists of statements: what stands before the `{`, or before the `:` of a case.

abbrev pub CatchTaken : Option Identifier → Option (Sorted (t.list t.statement)) → Reading
CatchTaken None None = nothing
CatchTaken (Some own) None = never
CatchTaken own (Some list) = the "catch" ⊳ catch_name own ⊳ ReadBraces list

abbrev pub CaseBefore : Option (Sorted t.expression) → Reading
CaseBefore None = the "default"
CaseBefore (Some of) = the "case" ⊳ ReadOf of

abbrev pub ListBefore : ListRole → Reading
ListBefore l.Block = nothing
ListBefore l.Try = the "try"
ListBefore (l.Catch block own) = the "try" ⊳ ReadBraces block ⊳ the "catch" ⊳ catch_name own
ListBefore (l.Finally block own catch) = the "try" ⊳ ReadBraces block ⊳ CatchTaken own catch ⊳ the "finally"
ListBefore (l.Function signature list) = ParametersTaken signature list
ListBefore (l.Arrow at list) = ArrowTaken at list
ListBefore (l.Case test) = CaseBefore test

abbrev pub opener : ListRole → String
opener (l.Case test) = ":"
opener _ = "{"

-- Statements.

abbrev pub opening_word : Opening → String
opening_word o.If = "if"
opening_word o.While = "while"
opening_word o.Switch = "switch"

abbrev pub jump_word : Jump → String
jump_word j.Break = "break"
jump_word j.Continue = "continue"

abbrev pub BehindDeclare : DeclareRole → Reading → Reading
BehindDeclare d.Statement reading = reading
BehindDeclare d.For reading = the "for" ⊳ the "(" ⊳ reading

abbrev pub DeclareTaken : DeclareRole → Bool → Sorted (t.list t.declarator) → Reading
DeclareTaken stands constant names = BehindDeclare stands (declaring_word constant) ⊳ ReadDeclarators constant names

abbrev pub ForTaken : Sorted t.head → Reading
ForTaken head = the "for" ⊳ the "(" ⊳ ReadHead head ⊳ the ";"

abbrev pub ForTestTaken : Sorted t.head → Option (Sorted t.expression) → Reading
ForTestTaken head test = ForTaken head ⊳ ReadOption test ⊳ the ";"

abbrev pub TestTaken : Opening → Sorted t.expression → Reading
TestTaken opening of = the (opening_word opening) ⊳ the "(" ⊳ ReadOf of ⊳ the ")"

abbrev pub is_on_line : Token → Type 0
is_on_line token = token.line_before ≡ false

abbrev pub is_value : Token → Type 0
is_value token = any_of ("{" ∷ "function" ∷ "class" ∷ []) token ≡ false

abbrev pub is_default_value : Token → Type 0
is_default_value token = any_of ("function" ∷ "class" ∷ []) token ≡ false

abbrev pub is_body : Token → Type 0
is_body token = any_of ("{" ∷ []) token ≡ false

-- Items.

abbrev pub exports : Bool → Pair → Reading
exports true = exported_from
exports false = exported

-- the default name of an import
abbrev pub DefaultTaken : List Pair → Reading
DefaultTaken [] = never
DefaultTaken (one ∷ []) = default_name one
DefaultTaken (one ∷ (two ∷ rest)) = never

-- a list of pairs by how it is read, behind the default name
abbrev pub BehindDefault : (List Pair → Reading) → List Pair → Reading
BehindDefault list [] = never
BehindDefault list (one ∷ rest) = default_name one ⊳ the "," ⊳ the "{" ⊳ list rest

abbrev pub PairsTaken : PairRole → ((Pair → Reading) → List Pair → Reading) → List Pair → Reading
PairsTaken pr.Import list pairs = the "import" ⊳ ((the "{" ⊳ list imported pairs) ∣ BehindDefault (list imported) pairs)
PairsTaken (pr.Export from) list pairs = the "export" ⊳ (the "{" ⊳ list (exports from) pairs)

abbrev pub NameTaken : Bool → Identifier → Reading
NameTaken true one = given (one.name ≡ codes "default") (here one.at (the "default"))
NameTaken false one = name one

abbrev pub ImportTaken : List Pair → Reading
ImportTaken pairs = the "import" ⊳ (braced imported pairs ∣ default_list pairs)

abbrev pub OtherTaken : PairRole → List Pair → Reading
OtherTaken pr.Import pairs = the "import" ⊳ import_list pairs
OtherTaken (pr.Export from) pairs = the "export" ⊳ braced exported_from pairs ⊳ the_name "from"

-- What an open form has taken.

abbrev pub CalleeTaken : Callee → Reading
CalleeTaken (callee.Call part) = given (is_base part ≡ true) (Read part)
CalleeTaken (callee.New at part) = here at (the "new") ⊳ given ((is_new_callee part ≡ true) × (is_base part ≡ true)) (Read part)
CalleeTaken (callee.Super at) = here at (the "super")

abbrev pub ExpressionOpen : ExpressionFrame → Reading
ExpressionOpen (x.Paren at) = here at (the "(")
ExpressionOpen (x.Infix operator left) = given (is_left_of operator left ≡ true) (Read left) ⊳ the (infix_sign operator)
ExpressionOpen (x.Prefix operator at) = here at (the (prefix_sign operator))
ExpressionOpen (x.Update at up) = here at (step up)
ExpressionOpen (x.New at) = here at (the "new")
ExpressionOpen (x.Yes test) = given (4 ≤ test.level) (Read test) ⊳ the "?"
ExpressionOpen (x.No test first) = given (4 ≤ test.level) (Read test) ⊳ the "?" ⊳ given (2 ≤ first.level) (Read first) ⊳ the ":"
ExpressionOpen (x.Assign to operator) = given (to.is_target ≡ true) (Read to) ⊳ assigning (assignment_sign operator)
ExpressionOpen (x.Arrow at list) = next is_body (ArrowTaken at list)
ExpressionOpen (x.Arguments of list) = CalleeTaken of ⊳ the "(" ⊳ ReadElements list
ExpressionOpen (x.Array at items) = here at (the "[") ⊳ ReadElements items
ExpressionOpen (x.Index of) = given (is_base of ≡ true) (Read of) ⊳ the "["
ExpressionOpen (x.SuperIndex at) = here at (the "super") ⊳ the "["
ExpressionOpen (x.Template at texts values) = here at (ReadPieces texts values)

abbrev pub MemberOpen : MemberFrame → Reading
MemberOpen (m.Object at members) = here at (the "{") ⊳ ReadMembers members
MemberOpen (m.Class start members) = ClassTaken start ⊳ the "{" ⊳ ReadInClass (is_derived start) members
MemberOpen (m.Parent at own stands) = ClassHead at own stands ⊳ the "extends"
MemberOpen (m.Key at fixed kind) = MemberBefore at fixed kind ⊳ the "["
MemberOpen (m.Value start) = StartTaken start ⊳ the ":"

abbrev pub StatementOpen : StatementFrame → Reading
StatementOpen (s.List stands list) = ListBefore stands ⊳ the (opener stands) ⊳ ReadStatements list
StatementOpen s.Value = next is_value nothing
StatementOpen (s.Initialiser constant names stands own) = DeclareTaken stands constant names ⊳ name own ⊳ the "="
StatementOpen (s.Test opening) = the (opening_word opening) ⊳ the "("
StatementOpen (s.DoTest body) = the "do" ⊳ ReadInner body ⊳ the "while" ⊳ the "("
StatementOpen s.ForValue = the "for" ⊳ the "("
StatementOpen (s.ForTest head) = ForTaken head
StatementOpen (s.ForStep head test) = ForTestTaken head test
StatementOpen (s.Return at) = next is_on_line (here at (the "return"))
StatementOpen s.Throw = next is_on_line (the "throw")
StatementOpen s.CaseTest = the "case"
StatementOpen (s.Yes test) = TestTaken o.If test
StatementOpen (s.No test first) = TestTaken o.If test ⊳ ReadLine false false first ⊳ the "else"
StatementOpen (s.While test) = TestTaken o.While test
StatementOpen (s.For head test each) = ForTestTaken head test ⊳ ReadOption each ⊳ the ")"
StatementOpen s.Do = the "do"
StatementOpen (s.Switch of cases has_default) = TestTaken o.Switch of ⊳ the "{" ⊳ ReadCases has_default cases

abbrev pub ItemOpen : ItemFrame → Reading
ItemOpen (n.Module items) = ReadItems items
ItemOpen n.Export = the "export"
ItemOpen (n.Default at) = next is_default_value (the "export" ⊳ here at (the "default"))

abbrev pub Taken : Frame → Reading
Taken (f.Expression frame) = ExpressionOpen frame
Taken (f.Member frame) = MemberOpen frame
Taken (f.Statement frame) = StatementOpen frame
Taken (f.Item frame) = ItemOpen frame

-- What an open form asks of the forms round it.

-- The least level of the expression that a form takes. It is its slot, but for a `new`, which takes 17.
abbrev pub lowest_of : Frame → ℕ
lowest_of (f.Expression (x.New at)) = 17
lowest_of frame = slot_of frame

abbrev pub lowest : Frames → ℕ
lowest [] = 100
lowest (frame ∷ frames) = lowest_of frame

-- whether a statement may stand there: a declaration, or any other
abbrev pub Takes : Frames → Bool → Type 0
Takes (f.Statement (s.List stands list) ∷ frames) declares = Unit {0}
Takes (f.Item (n.Module items) ∷ frames) declares = Unit {0}
Takes (f.Item n.Export ∷ frames) declares = declares ≡ true
Takes (f.Statement (s.Yes test) ∷ frames) declares = declares ≡ false
Takes (f.Statement (s.No test first) ∷ frames) declares = declares ≡ false
Takes (f.Statement (s.While test) ∷ frames) declares = declares ≡ false
Takes (f.Statement (s.For head test each) ∷ frames) declares = declares ≡ false
Takes (f.Statement s.Do ∷ frames) declares = declares ≡ false
Takes _ declares = ⊥

abbrev pub RoleFits : Role → Frames → Type 0
RoleFits role.Expression frames = lowest frames ≤ 17
RoleFits role.Statement frames = Takes frames true
RoleFits (role.Default place) frames = Unit {0}

abbrev pub DeclareFits : DeclareRole → Frames → Type 0
DeclareFits d.Statement frames = Takes frames true
DeclareFits d.For frames = Takes frames false

-- no member of an object literal is static
abbrev pub FixedFits : Bool → Frames → Type 0
FixedFits fixed (f.Member (m.Object at members) ∷ frames) = fixed ≡ false
FixedFits fixed _ = Unit {0}

abbrev pub IsOfFunction : MemberKind → Type 0
IsOfFunction kind.Value = ⊥
IsOfFunction kind.Short = ⊥
IsOfFunction _ = Unit {0}

abbrev pub StartFits : Bool → MemberKind → Frames → Type 0
StartFits fixed kind frames = FixedFits fixed frames × IsOfFunction kind

abbrev pub SignatureFits : Signature → Frames → Type 0
SignatureFits (g.Function at own stands) frames = RoleFits stands frames
SignatureFits (g.Method start) frames = StartFits start.fixed start.kind frames

-- a switch that has no default yet
abbrev pub DefaultFits : Option (Sorted t.expression) → Frames → Type 0
DefaultFits None (f.Statement (s.Switch of cases has_default) ∷ frames) = has_default ≡ false
DefaultFits _ _ = Unit {0}

abbrev pub ListFits : ListRole → Frames → Type 0
ListFits (l.Function signature list) frames = SignatureFits signature frames
ListFits (l.Arrow at list) frames = lowest frames ≤ 2
ListFits (l.Case test) frames = DefaultFits test frames
ListFits _ frames = Takes frames false

-- the level that the expression has that a form makes, up to 17
abbrev pub makes : ExpressionFrame → ℕ
makes (x.Infix operator left) = infix_level operator
makes (x.Prefix operator at) = 15
makes (x.Update at up) = 16
makes (x.Yes test) = 3
makes (x.No test first) = 3
makes (x.Assign to operator) = 2
makes (x.Arrow at list) = 2
makes _ = 17

abbrev pub MemberFits : MemberFrame → Frames → Type 0
MemberFits (m.Object at members) frames = lowest frames ≤ 17
MemberFits (m.Class start members) frames = RoleFits start.role frames
MemberFits (m.Parent at own stands) frames = RoleFits stands frames
MemberFits (m.Key at fixed kind) frames = StartFits fixed kind frames
MemberFits (m.Value start) frames = (start.fixed ≡ false) × (start.kind ≡ kind.Method)

abbrev pub StatementFits : StatementFrame → Frames → Type 0
StatementFits (s.List stands list) frames = ListFits stands frames
StatementFits (s.Initialiser constant names stands own) frames = DeclareFits stands frames
StatementFits s.CaseTest frames = Unit {0}
StatementFits _ frames = Takes frames false

abbrev pub Fits : Frame → Frames → Type 0
Fits (f.Expression frame) frames = lowest frames ≤ makes frame
Fits (f.Member frame) frames = MemberFits frame frames
Fits (f.Statement frame) frames = StatementFits frame frames
Fits (f.Item frame) frames = Unit {0}

-- The open forms have taken the tokens from `whole` up to where `now` begins.
abbrev pub Opened : Tokens → Frames → Tokens → Type 0
Opened whole [] now = whole ≡ now
Opened whole (frame ∷ frames) now = (from : Tokens) × Opened whole frames from × Fits frame frames × Taken frame from now

-- What was taken of what is due, and what that asks of the forms round it.

abbrev pub ExpressionTaken : ExpressionDue → Reading
ExpressionTaken (xd.Property part) = given (is_base part ≡ true) (Read part) ⊳ the "."
ExpressionTaken (xd.Super at) = here at (the "super")
ExpressionTaken (xd.SuperProperty at) = here at (the "super") ⊳ the "."
ExpressionTaken (xd.Arrow at list) = here at (arrow_names list)
ExpressionTaken (xd.ArrowBody at list) = ArrowTaken at list

abbrev pub ExpressionFits : ExpressionDue → Frames → Type 0
ExpressionFits (xd.Arrow at list) frames = lowest frames ≤ 2
ExpressionFits (xd.ArrowBody at list) frames = lowest frames ≤ 2
ExpressionFits _ frames = lowest frames ≤ 17

-- the name that is the word of an accessor
abbrev pub IsAccessor : MemberKind → Identifier → Type 0
IsAccessor kind.Getter one = one.name ≡ codes "get"
IsAccessor kind.Setter one = one.name ≡ codes "set"
IsAccessor _ one = ⊥

abbrev pub MemberTaken : MemberDue → Reading
MemberTaken md.Member = nothing
MemberTaken md.Next = never
MemberTaken (md.Fixed at) = here at (the "static")
MemberTaken (md.Accessor at fixed kind one) = here at (static_before fixed ▸ name one)
MemberTaken (md.Key start short) = λ from to. StartTaken start from to × ShortIs short start.fixed start.kind from to
MemberTaken (md.FunctionName at stands) = BehindRole stands (here at (the "function"))
MemberTaken (md.Parameters signature) = SignatureTaken signature
MemberTaken (md.Parameter signature list) = SignatureTaken signature ⊳ the "(" ⊳ PartParameters (kind_of signature) list
MemberTaken (md.ParameterNext signature list) = SignatureTaken signature ⊳ the "(" ⊳ NextParameters (kind_of signature) list
MemberTaken (md.Body signature list) = ParametersTaken signature list
MemberTaken (md.ClassName at stands) = BehindRole stands (here at (the "class"))
MemberTaken (md.ClassNext at own stands) = ClassHead at own stands

abbrev pub MemberDueFits : MemberDue → Frames → Type 0
MemberDueFits md.Member frames = Unit {0}
MemberDueFits md.Next frames = ⊥
MemberDueFits (md.Fixed at) frames = FixedFits true frames
MemberDueFits (md.Accessor at fixed kind one) frames = FixedFits fixed frames × IsAccessor kind one
MemberDueFits (md.Key start short) frames = StartFits start.fixed start.kind frames
MemberDueFits (md.FunctionName at stands) frames = RoleFits stands frames
MemberDueFits (md.Parameters signature) frames = SignatureFits signature frames
MemberDueFits (md.Parameter signature list) frames = SignatureFits signature frames
MemberDueFits (md.ParameterNext signature list) frames = SignatureFits signature frames
MemberDueFits (md.Body signature list) frames = SignatureFits signature frames
MemberDueFits (md.ClassName at stands) frames = RoleFits stands frames
MemberDueFits (md.ClassNext at own stands) frames = RoleFits stands frames

abbrev pub StatementTaken : StatementDue → Reading
StatementTaken (sd.Open opening) = the (opening_word opening)
StatementTaken (sd.Brace stands) = given (opener stands ≡ "{") (ListBefore stands)
StatementTaken (sd.SwitchBrace of) = TestTaken o.Switch of
StatementTaken sd.Case = nothing
StatementTaken sd.CaseColon = the "default"
StatementTaken sd.ForOpen = the "for"
StatementTaken sd.ForHead = the "for" ⊳ the "("
StatementTaken (sd.ForTest head) = ForTaken head
StatementTaken (sd.ForStep head test) = ForTestTaken head test
StatementTaken (sd.Name constant names stands) = DeclareTaken stands constant names
StatementTaken (sd.NameNext constant names stands own) = DeclareTaken stands constant names ⊳ name own
StatementTaken (sd.Else test first) = TestTaken o.If test ⊳ ReadLine false false first
StatementTaken (sd.DoWhile body) = the "do" ⊳ ReadInner body
StatementTaken (sd.DoOpen body) = the "do" ⊳ ReadInner body ⊳ the "while"
StatementTaken (sd.DoEnd body test) = the "do" ⊳ ReadInner body ⊳ the "while" ⊳ the "(" ⊳ ReadOf test ⊳ the ")"
StatementTaken (sd.Jump which at) = here at (the (jump_word which))
StatementTaken (sd.Return at) = here at (the "return")
StatementTaken sd.Throw = the "throw"
StatementTaken (sd.Guard block) = the "try" ⊳ ReadBraces block
StatementTaken (sd.Catch block) = the "try" ⊳ ReadBraces block ⊳ the "catch"
StatementTaken (sd.CatchName block) = the "try" ⊳ ReadBraces block ⊳ the "catch" ⊳ the "("
StatementTaken (sd.CatchClose block own) = the "try" ⊳ ReadBraces block ⊳ the "catch" ⊳ the "(" ⊳ name own
StatementTaken (sd.Finally block own catch) = the "try" ⊳ ReadBraces block ⊳ CatchTaken own (Some catch)

abbrev pub StatementDueFits : StatementDue → Frames → Type 0
StatementDueFits (sd.Brace stands) frames = ListFits stands frames
StatementDueFits sd.Case frames = Unit {0}
StatementDueFits sd.CaseColon frames = DefaultFits None frames
StatementDueFits (sd.Name constant names stands) frames = DeclareFits stands frames
StatementDueFits (sd.NameNext constant names stands own) frames = DeclareFits stands frames
StatementDueFits _ frames = Takes frames false

abbrev pub ItemTaken : ItemDue → Reading
ItemTaken nd.Import = the "import"
ItemTaken (nd.ImportNext pairs) = the "import" ⊳ DefaultTaken pairs
ItemTaken (nd.ImportBrace pairs) = the "import" ⊳ DefaultTaken pairs ⊳ the ","
ItemTaken (nd.Pair stands pairs) = PairsTaken stands each_commaed pairs
ItemTaken (nd.PairAs stands pairs taken outer) = PairsTaken stands each_commaed pairs ⊳ NameTaken outer taken
ItemTaken (nd.PairGiven stands pairs taken outer) = PairsTaken stands each_commaed pairs ⊳ NameTaken outer taken ⊳ the_name "as"
ItemTaken (nd.PairNext stands pairs) = PairsTaken stands each_joined pairs
ItemTaken (nd.From pairs) = ImportTaken pairs
ItemTaken (nd.Other pr.Import pairs) = ImportTaken pairs ⊳ the_name "from"
ItemTaken (nd.Other (pr.Export from) pairs) = OtherTaken (pr.Export from) pairs
ItemTaken (nd.OtherEnd stands pairs from) = OtherTaken stands pairs ⊳ module_name from
ItemTaken (nd.ExportNext from pairs) = the "export" ⊳ braced (exports from) pairs
ItemTaken nd.Export = the "export"
ItemTaken (nd.Default at) = the "export" ⊳ here at (the "default")

-- Of a state: what was taken, up to where `now` begins.

-- behind a member of an object literal
abbrev pub NextHolds : Tokens → Frames → Tokens → Type 0
NextHolds whole (f.Member (m.Object at members) ∷ frames) now =
    (from : Tokens) × Opened whole frames from × (lowest frames ≤ 17) × (here at (the "{") ⊳ ReadJoined members) from now
NextHolds whole _ now = ⊥

abbrev pub DueHolds : Tokens → Frames → Type 0 → Reading → Tokens → Type 0
DueHolds whole frames fits taken now = (from : Tokens) × Opened whole frames from × fits × taken from now

abbrev pub MemberHolds : Tokens → MemberDue → Frames → Tokens → Type 0
MemberHolds whole md.Next frames now = NextHolds whole frames now
MemberHolds whole due frames now = DueHolds whole frames (MemberDueFits due frames) (MemberTaken due) now

abbrev pub ControlHolds : Tokens → Control → Frames → Tokens → Type 0
ControlHolds whole c.Fail frames now = Unit {0}
ControlHolds whole c.Operand frames now = Opened whole frames now × (lowest frames ≤ 17)
ControlHolds whole (c.Read part) frames now = (from : Tokens) × Opened whole frames from × (lowest frames ≤ 17) × (lowest frames ≤ part.level) × Read part from now
ControlHolds whole c.Statement frames now = Opened whole frames now × Takes frames false
ControlHolds whole (c.Expression due) frames now = DueHolds whole frames (ExpressionFits due frames) (ExpressionTaken due) now
ControlHolds whole (c.Member due) frames now = MemberHolds whole due frames now
ControlHolds whole (c.StatementPart due) frames now = DueHolds whole frames (StatementDueFits due frames) (StatementTaken due) now
ControlHolds whole (c.Item due) frames now = DueHolds whole frames (Unit {0}) (ItemTaken due) now
ControlHolds whole (c.Done items) frames now = (last : Token) × (last.kind ≡ k.End) × ReadItems items whole (last ∷ now)

abbrev pub Holds : Tokens → State → Tokens → Type 0
Holds whole (state control frames) now = ControlHolds whole control frames now
