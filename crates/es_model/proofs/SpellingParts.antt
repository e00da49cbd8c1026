-- What the spelling of each form takes: at least one token, as many closing signs as opening ones, no
-- End, and the places of its functions within those of its tokens, in their order. The clauses follow
-- those of `Spells`.
use Rattle.std.proofs.Common.{◌≡◌, ℕ, suc, ◌+◌, ◌≤◌, Bool, true, false, List, [], ◌∷◌, ◌++◌, length, Option, Some, None, refl, ap, sym, ◌∙◌, subst, append-nil, codes, inl, inr, arith}
use Prim.Native.String.{String}
use lib.IntN.{ℤ}
use Rattle.es_model.specs.declared.kinds.Semi.{Semi}
use Rattle.es_model.specs.declared.kinds.Semi.TheVariants as semi
use Rattle.es_model.specs.declared.kinds.FunctionKind.{FunctionKind}
use Rattle.es_model.specs.declared.kinds.FunctionKind.TheVariants as f
use Rattle.es_model.specs.declared.kinds.MemberKind.{MemberKind}
use Rattle.es_model.specs.declared.kinds.MemberKind.TheVariants as m
use Rattle.es_model.specs.declared.kinds.BinaryOperator.{BinaryOperator}
use Rattle.es_model.specs.declared.kinds.BinaryOperator.TheVariants as b
use Rattle.es_model.specs.declared.kinds.UnaryOperator.{UnaryOperator}
use Rattle.es_model.specs.declared.kinds.UnaryOperator.TheVariants as u
use Rattle.es_model.specs.declared.names.Identifier.{Identifier}
use Rattle.es_model.specs.declared.names.Pair.{Pair}
use Rattle.es_model.specs.declared.token.Token.{Token}
use Rattle.es_model.specs.declared.token.TokenKind.{TokenKind}
use Rattle.es_model.specs.declared.token.TokenKind.TheVariants as k
use Rattle.es_model.specs.Tree as t
use Rattle.es_model.specs.Tree.{Tree, Text}
use Rattle.es_model.specs.Functions.{FunctionForm, Generated, functions, generated}
use Rattle.es_model.specs.Levels.{operator_sign, assignment_sign, unary_sign, Holder, InObject, InClass}
use Rattle.es_model.specs.Readings.{Tokens, Reading, First, same_kind, nothing, ◌▸◌, ◌∣◌, One, word, plain_name, the, name, the_name, maybe_name, property, here, same_line, semicolon}
use Rattle.es_model.specs.Spelling as s
use Rattle.es_model.specs.Spelling.{Spelled, Maybe, LeftOut, There, AsExpression, AsStatement, AsDefault, AsMember, Semicolons, no_more, one_more}
use Rattle.es_model.specs.SyntaxLaws.{AscendFrom, EndsOnce, place_of_function, opens, closes, one_if, openings, closings}
use Rattle.es_model.proofs.TokenLaws.{one_more_ends}

-- the places of functions ascend strictly from `low` to below `high`
abbrev pub Within : ℕ → ℕ → List FunctionForm → Type 0
Within low high [] = low ≤ high
Within low high (form ∷ forms) = (low ≤ place_of_function form) × Within (suc (place_of_function form)) high forms

-- What stands between two lists of tokens, the second the end of the first: at least so many tokens,
-- so many opening signs and so many closing ones, both more or less by one number, no End, and the
-- places of these functions.
pub record Read (least up down : ℕ) (forms : List FunctionForm) (from to : Tokens) : Type 0 where
  pub fewer : least + length to ≤ length from
  pub signs : openings from + closings to + down ≡ closings from + openings to + up
  pub ends : EndsOnce to → EndsOnce from
  pub places : (low : ℕ) → AscendFrom low from → (high : ℕ) × AscendFrom high to × Within low high forms

abbrev pub Reads : ℕ → ℕ → ℕ → List FunctionForm → Reading → Type 0
Reads least up down forms reading = (from to : Tokens) → reading from to → Read least up down forms from to

-- the same, of a reading that begins with a token before all of its functions, at the place of one more
abbrev pub Starts : ℕ → ℕ → ℕ → List FunctionForm → Reading → Type 0
Starts least up down forms reading = (form : FunctionForm) → Reads least up down (form ∷ forms) (here (place_of_function form) reading)

-- Putting them together.

lower : (low mid high : ℕ) (forms : List FunctionForm) → low ≤ mid → Within mid high forms → Within low high forms
lower low mid high [] le h = omega (arith, h)
lower low mid high (form ∷ forms) le h = (omega (arith, h.0), h.1)

within_joined : (low mid high : ℕ) (forms others : List FunctionForm) → Within low mid forms → Within mid high others → Within low high (forms ++ others)
within_joined low mid high [] others h g = lower low mid high others h g
within_joined low mid high (form ∷ forms) others h g = (h.0, within_joined (suc (place_of_function form)) mid high forms others h.1 g)

read_joined : {l u d m v e : ℕ} {fs gs : List FunctionForm} {from mid to : Tokens} → Read l u d fs from mid → Read m v e gs mid to → Read (l + m) (u + v) (d + e) (fs ++ gs) from to
read_joined {fs = fs} {gs = gs} x y = record {
  fewer = omega (arith, x.fewer, y.fewer);
  signs = omega (arith, x.signs, y.signs);
  ends = λ h. x.ends (y.ends h);
  places = λ low ascend. let p = x.places low ascend in let q = y.places p.0 p.1 in (q.0, q.1, within_joined low p.0 q.0 fs gs p.2 q.2);
}

read_loose : {l u d : ℕ} {fs : List FunctionForm} {from to : Tokens} → Read l u d fs from to → Read 0 u d fs from to
read_loose x = record { fewer = omega (arith, x.fewer); signs = x.signs; ends = x.ends; places = x.places }

pub along : {l u d : ℕ} {fs gs : List FunctionForm} {r : Reading} → fs ≡ gs → Reads l u d fs r → Reads l u d gs r
along {l} {u} {d} {r = r} e reads = subst (λ fs. Reads l u d fs r) e reads

pub seq : {l u d m v e : ℕ} {fs gs : List FunctionForm} {r q : Reading} → Reads l u d fs r → Reads m v e gs q → Reads (l + m) (u + v) (d + e) (fs ++ gs) (r ▸ q)
seq one other from to h = read_joined (one from h.0 h.1) (other h.0 to h.2)

-- where no function stands in the second
pub behind : {l u d m v e : ℕ} {fs : List FunctionForm} {r q : Reading} → Reads l u d fs r → Reads m v e [] q → Reads (l + m) (u + v) (d + e) fs (r ▸ q)
behind {fs = fs} one other = along (append-nil fs) (seq one other)

pub loose : {l u d : ℕ} {fs : List FunctionForm} {r : Reading} → Reads l u d fs r → Reads 0 u d fs r
loose reads from to h = read_loose (reads from to h)

-- at least one token, and as many closing signs as opening ones
pub once : {l n : ℕ} {fs : List FunctionForm} {r : Reading} → Reads (suc l) n n fs r → Reads 1 0 0 fs r
once reads from to h = let x = reads from to h in record { fewer = omega (arith, x.fewer); signs = omega (arith, x.signs); ends = x.ends; places = x.places }

any : {l n : ℕ} {fs : List FunctionForm} {r : Reading} → Reads l n n fs r → Reads 0 0 0 fs r
any reads from to h = let x = reads from to h in record { fewer = omega (arith, x.fewer); signs = omega (arith, x.signs); ends = x.ends; places = x.places }

pub under : (fact : Reading) {l u d : ℕ} {fs : List FunctionForm} {r : Reading} → Reads l u d fs r → Reads l u d fs (λ from to. fact from to × r from to)
under fact reads from to h = reads from to h.1

either : {l u d : ℕ} {fs : List FunctionForm} {r q : Reading} → Reads l u d fs r → Reads l u d fs q → Reads l u d fs (r ∣ q)
either one other from to (inl h) = one from to h
either one other from to (inr h) = other from to h

pub nothing_reads : Reads 0 0 0 [] nothing
nothing_reads from to h = record {
  fewer = omega (arith, ap length h);
  signs = omega (arith, ap openings h, ap closings h);
  ends = subst EndsOnce (sym h);
  places = λ low ascend. (low, subst (AscendFrom low) h ascend, omega arith);
}

-- One token, which isn't End.

abbrev pub Weighs : ℕ → ℕ → TokenKind → Type 0
Weighs u d kind = (one_if (opens kind) ≡ u) × (one_if (closes kind) ≡ d) × (same_kind kind k.End ≡ false)

pub one_reads : (test : Token → Type 0) (u d : ℕ) → ((token : Token) → test token → Weighs u d token.kind) → Reads 1 u d [] (One test)
one_reads test u d weighs [] to h = absurd h
one_reads test u d weighs (token ∷ tokens) to h = let w = weighs token h.0 in record {
  fewer = omega (arith, ap length h.1);
  signs = omega (arith, w.0, w.1, ap openings h.1, ap closings h.1);
  ends = λ g. one_more_ends token tokens w.2 (subst EndsOnce (sym h.1) g);
  places = λ low ascend. (suc token.at, subst (AscendFrom (suc token.at)) h.1 ascend.1, omega (arith, ascend.0));
}

pub one_starts : (test : Token → Type 0) (u d : ℕ) → ((token : Token) → test token → Weighs u d token.kind) → Starts 1 u d [] (One test)
one_starts test u d weighs form [] to h = absurd h.0
one_starts test u d weighs form (token ∷ tokens) to h = let w = weighs token h.1.0 in record {
  fewer = omega (arith, ap length h.1.1);
  signs = omega (arith, w.0, w.1, ap openings h.1.1, ap closings h.1.1);
  ends = λ g. one_more_ends token tokens w.2 (subst EndsOnce (sym h.1.1) g);
  places = λ low ascend. (suc token.at, subst (AscendFrom (suc token.at)) h.1.1 ascend.1, (omega (arith, ascend.0, h.0), omega (arith, h.0)));
}

pub kind_weighs : (u d : ℕ) (kind other : TokenKind) → Weighs u d other → kind ≡ other → Weighs u d kind
kind_weighs u d kind other w e = subst (Weighs u d) (sym e) w

-- a word that is no such sign, an opening sign, and a closing one

the_reads : (text : String) (u d : ℕ) → Weighs u d (word text) → Reads 1 u d [] (the text)
the_reads text u d w = one_reads _ u d (λ token e. kind_weighs u d token.kind (word text) w e)

the_starts : (text : String) (u d : ℕ) → Weighs u d (word text) → Starts 1 u d [] (the text)
the_starts text u d w = one_starts _ u d (λ token e. kind_weighs u d token.kind (word text) w e)

name_weighs : (text : Text) → Weighs 0 0 (k.Name text)
unfolding word
name_weighs text = (refl, refl, refl)

pub the_name_reads : (text : String) → Reads 1 0 0 [] (the_name text)
the_name_reads text = one_reads _ 0 0 (λ token e. kind_weighs 0 0 token.kind (k.Name (codes text)) (name_weighs (codes text)) e)

the_name_starts : (text : String) → Starts 1 0 0 [] (the_name text)
the_name_starts text = one_starts _ 0 0 (λ token e. kind_weighs 0 0 token.kind (k.Name (codes text)) (name_weighs (codes text)) e)

pub name_reads : (identifier : Identifier) → Reads 1 0 0 [] (name identifier)
name_reads identifier = one_reads _ 0 0 (λ token e. kind_weighs 0 0 token.kind (k.Name identifier.name) (name_weighs identifier.name) e.0)

name_starts : (identifier : Identifier) → Starts 1 0 0 [] (name identifier)
name_starts identifier = one_starts _ 0 0 (λ token e. kind_weighs 0 0 token.kind (k.Name identifier.name) (name_weighs identifier.name) e.0)

pub number_weighs : (value : ℤ) → Weighs 0 0 (k.Number value)
unfolding word
number_weighs value = (refl, refl, refl)

pub string_weighs : (text : Text) → Weighs 0 0 (k.String text)
unfolding word
string_weighs text = (refl, refl, refl)

property_weighs : (kind : TokenKind) (text : Text) → plain_name kind ≡ Some text → Weighs 0 0 kind
unfolding word
property_weighs (k.Name _) text e = (refl, refl, refl)
property_weighs (k.Keyword _) text e = (refl, refl, refl)
property_weighs (k.Number _) text e = absurd (cc e)
property_weighs (k.String _) text e = absurd (cc e)
property_weighs (k.Template _ _ _) text e = absurd (cc e)
property_weighs (k.Sign _) text e = absurd (cc e)
property_weighs k.End text e = absurd (cc e)

pub plain : (text : String) → Weighs 0 0 (word text) → Reads 1 0 0 [] (the text)
plain text w = the_reads text 0 0 w

pub comma : Reads 1 0 0 [] (the ",")
unfolding word
comma = plain "," (refl, refl, refl)

pub opening_parenthesis : Reads 1 1 0 [] (the "(")
unfolding word
opening_parenthesis = the_reads "(" 1 0 (refl, refl, refl)

pub closing_parenthesis : Reads 1 0 1 [] (the ")")
unfolding word
closing_parenthesis = the_reads ")" 0 1 (refl, refl, refl)

opening_bracket : Reads 1 1 0 [] (the "[")
unfolding word
opening_bracket = the_reads "[" 1 0 (refl, refl, refl)

closing_bracket : Reads 1 0 1 [] (the "]")
unfolding word
closing_bracket = the_reads "]" 0 1 (refl, refl, refl)

opening_brace : Reads 1 1 0 [] (the "{")
unfolding word
opening_brace = the_reads "{" 1 0 (refl, refl, refl)

closing_brace : Reads 1 0 1 [] (the "}")
unfolding word
closing_brace = the_reads "}" 0 1 (refl, refl, refl)

-- something between two such signs
pub in_parentheses : {l n : ℕ} {fs : List FunctionForm} {r : Reading} → Reads l n n fs r → Reads 1 0 0 fs (the "(" ▸ r ▸ the ")")
in_parentheses reads = once (seq opening_parenthesis (behind (any reads) closing_parenthesis))

pub in_brackets : {l n : ℕ} {fs : List FunctionForm} {r : Reading} → Reads l n n fs r → Reads 1 0 0 fs (the "[" ▸ r ▸ the "]")
in_brackets reads = once (seq opening_bracket (behind (any reads) closing_bracket))

pub in_braces : {l n : ℕ} {fs : List FunctionForm} {r : Reading} → Reads l n n fs r → Reads 1 0 0 fs (the "{" ▸ r ▸ the "}")
in_braces reads = once (seq opening_brace (behind (any reads) closing_brace))

-- what stands behind an opening parenthesis, up to its closing one, and then more
pub then_in_parentheses : {l n m v : ℕ} {fs gs : List FunctionForm} {r q : Reading} → Reads l n n fs r → Reads m v v gs q → Reads 1 0 0 (fs ++ gs) (the "(" ▸ r ▸ the ")" ▸ q)
then_in_parentheses reads more = once (seq opening_parenthesis (seq (any reads) (seq closing_parenthesis (any more))))

pub operator_weighs : (operator : BinaryOperator) → Weighs 0 0 (word (operator_sign operator))
unfolding word
operator_weighs b.Add = (refl, refl, refl)
operator_weighs b.Subtract = (refl, refl, refl)
operator_weighs b.Multiply = (refl, refl, refl)
operator_weighs b.Divide = (refl, refl, refl)
operator_weighs b.Remainder = (refl, refl, refl)
operator_weighs b.Power = (refl, refl, refl)
operator_weighs b.BitAnd = (refl, refl, refl)
operator_weighs b.BitOr = (refl, refl, refl)
operator_weighs b.BitXor = (refl, refl, refl)
operator_weighs b.ShiftLeft = (refl, refl, refl)
operator_weighs b.ShiftRight = (refl, refl, refl)
operator_weighs b.ShiftRightUnsigned = (refl, refl, refl)
operator_weighs b.Less = (refl, refl, refl)
operator_weighs b.Greater = (refl, refl, refl)
operator_weighs b.LessOrEqual = (refl, refl, refl)
operator_weighs b.GreaterOrEqual = (refl, refl, refl)
operator_weighs b.Equal = (refl, refl, refl)
operator_weighs b.NotEqual = (refl, refl, refl)
operator_weighs b.StrictEqual = (refl, refl, refl)
operator_weighs b.StrictNotEqual = (refl, refl, refl)

pub unary_weighs : (operator : UnaryOperator) → Weighs 0 0 (word (unary_sign operator))
unfolding word
unary_weighs u.Not = (refl, refl, refl)
unary_weighs u.Negate = (refl, refl, refl)
unary_weighs u.Plus = (refl, refl, refl)
unary_weighs u.BitNot = (refl, refl, refl)

pub assigning_reads : (operator : Option BinaryOperator) → Reads 1 0 0 [] (s.assigning (assignment_sign operator))
unfolding word
assigning_reads None = plain "=" (refl, refl, refl)
assigning_reads (Some b.Add) = plain "+=" (refl, refl, refl)
assigning_reads (Some b.Subtract) = plain "-=" (refl, refl, refl)
assigning_reads (Some b.Multiply) = plain "*=" (refl, refl, refl)
assigning_reads (Some b.Divide) = plain "/=" (refl, refl, refl)
assigning_reads (Some b.Remainder) = plain "%=" (refl, refl, refl)
assigning_reads (Some b.Power) = plain "**=" (refl, refl, refl)
assigning_reads (Some b.BitAnd) = plain "&=" (refl, refl, refl)
assigning_reads (Some b.BitOr) = plain "|=" (refl, refl, refl)
assigning_reads (Some b.BitXor) = plain "^=" (refl, refl, refl)
assigning_reads (Some b.ShiftLeft) = plain "<<=" (refl, refl, refl)
assigning_reads (Some b.ShiftRight) = plain ">>=" (refl, refl, refl)
assigning_reads (Some b.ShiftRightUnsigned) = plain ">>>=" (refl, refl, refl)
assigning_reads (Some _) = λ from to h. absurd h

pub step_reads : (up : Bool) → Reads 1 0 0 [] (s.step up)
unfolding word
step_reads true = plain "++" (refl, refl, refl)
step_reads false = plain "--" (refl, refl, refl)

pub declaring_word_reads : (constant : Bool) → Reads 1 0 0 [] (s.declaring_word constant)
unfolding word
declaring_word_reads true = plain "const" (refl, refl, refl)
declaring_word_reads false = plain "let" (refl, refl, refl)

pub written_reads : Reads 1 0 0 [] (the ";")
unfolding word
written_reads = plain ";" (refl, refl, refl)

pub semicolon_reads : (may : Token → Bool) (mark : Semi) → Reads 0 0 0 [] (semicolon may mark)
semicolon_reads may semi.Written = loose written_reads
semicolon_reads may semi.Missing = λ from to h. nothing_reads from to h.0

maybe_name_reads : (own : Option Identifier) → Reads 0 0 0 [] (maybe_name own)
maybe_name_reads None = nothing_reads
maybe_name_reads (Some own) = loose (name_reads own)

maybe_comma_reads : Reads 0 0 0 [] s.maybe_comma
maybe_comma_reads = either nothing_reads (loose comma)

pub class_name_reads : (named : Bool) (own : Option Identifier) → Reads 0 0 0 [] (s.class_name named own)
class_name_reads true None = λ from to h. absurd h
class_name_reads true (Some own) = maybe_name_reads (Some own)
class_name_reads false own = maybe_name_reads own

pub catch_name_reads : (caught : Option Identifier) → Reads 0 0 0 [] (s.catch_name caught)
catch_name_reads None = nothing_reads
catch_name_reads (Some caught) = loose (in_parentheses (name_reads caught))

names_read : (names : List Identifier) → Reads 0 0 0 [] (s.names names)
names_read [] = nothing_reads
names_read (one ∷ []) = loose (seq (name_reads one) maybe_comma_reads)
names_read (one ∷ (two ∷ rest)) = loose (seq (name_reads one) (seq comma (names_read (two ∷ rest))))

parameters_start : (names : List Identifier) → Starts 1 0 0 [] (the "(" ▸ s.names names ▸ the ")")
unfolding word
parameters_start names form from to h = once (seq (the_starts "(" 1 0 (refl, refl, refl) form) (seq (names_read names) closing_parenthesis)) from to (h.1.0, (h.0, h.1.1), h.1.2)

either_starts : {r q : Reading} → Starts 1 0 0 [] r → Starts 1 0 0 [] q → Starts 1 0 0 [] (r ∣ q)
either_starts one other form from to (first, inl h) = one form from to (first, h)
either_starts one other form from to (first, inr h) = other form from to (first, h)

arrow_names_start : (names : List Identifier) → Starts 1 0 0 [] (s.arrow_names names)
arrow_names_start [] = parameters_start []
arrow_names_start (one ∷ []) = either_starts (parameters_start (one ∷ [])) (name_starts one)
arrow_names_start (one ∷ (two ∷ rest)) = parameters_start (one ∷ (two ∷ rest))

one_name_reads : (names : List Identifier) → Reads 0 0 0 [] (s.one_name names)
one_name_reads [] = λ from to h. absurd h
one_name_reads (one ∷ []) = loose (name_reads one)
one_name_reads (one ∷ (two ∷ rest)) = λ from to h. absurd h

no_name_reads : (names : List Identifier) → Reads 0 0 0 [] (s.no_name names)
no_name_reads [] = nothing_reads
no_name_reads (one ∷ rest) = λ from to h. absurd h

member_parameters_read : (kind : MemberKind) (names : List Identifier) → Reads 0 0 0 [] (s.member_parameters kind names)
member_parameters_read m.Value names = names_read names
member_parameters_read m.Short names = names_read names
member_parameters_read m.Method names = names_read names
member_parameters_read m.Getter names = no_name_reads names
member_parameters_read m.Setter names = one_name_reads names

semicolons_read : Reads 0 0 0 [] Semicolons
semicolons_read from to no_more = nothing_reads from to refl
semicolons_read from to (one_more {mid = mid} h more) = read_loose (read_joined (written_reads from mid h) (semicolons_read mid to more))

-- Lists and options of readings, with the functions of each.

abbrev pub Each : {A : Type 1} → (List FunctionForm → A → Type 0) → List FunctionForm → List {1} A → Type 0
Each claim forms [] = forms ≡ []
Each claim forms (one ∷ rest) = (first others : List FunctionForm) × (forms ≡ first ++ others) × claim first one × Each claim others rest

abbrev IfThere : {A : Type 1} → (List FunctionForm → A → Type 0) → List FunctionForm → Maybe A → Type 0
IfThere claim forms LeftOut = forms ≡ []
IfThere claim forms (There one) = claim forms one

abbrev pub Takes : List FunctionForm → Reading → Type 0
Takes forms reading = Reads 1 0 0 forms reading

abbrev MemberTakes : List FunctionForm → (Holder → Reading) → Type 0
MemberTakes forms member = (holder : Holder) → Takes forms (member holder)

pub sequence_reads : (forms : List FunctionForm) (readings : List {1} Reading) → Each Takes forms readings → Reads 0 0 0 forms (s.sequence readings)
sequence_reads forms [] none = along (sym none) nothing_reads
sequence_reads forms (one ∷ rest) h = along (sym h.2) (loose (seq h.3 (sequence_reads h.1 rest h.4)))

pub separated_read : (forms : List FunctionForm) (readings : List {1} Reading) → Each Takes forms readings → Reads 0 0 0 forms (s.separated readings)
separated_read forms [] none = along (sym none) nothing_reads
separated_read forms (one ∷ []) h = along (sym h.2) (loose (seq h.3 (along (sym h.4) maybe_comma_reads)))
separated_read forms (one ∷ (two ∷ rest)) h = along (sym h.2) (loose (seq h.3 (seq comma (separated_read h.1 (two ∷ rest) h.4))))

pub joined_reads : (forms : List FunctionForm) (readings : List {1} Reading) → Each Takes forms readings → Takes forms (s.joined readings)
joined_reads forms [] none = λ from to h. absurd h
joined_reads forms (one ∷ []) h = along (sym (h.2 ∙ ap (λ others. h.0 ++ others) h.4 ∙ append-nil h.0)) h.3
joined_reads forms (one ∷ (two ∷ rest)) h = along (sym h.2) (once (seq h.3 (seq comma (joined_reads h.1 (two ∷ rest) h.4))))

pub maybe_reads : (forms : List FunctionForm) (reading : Maybe Reading) → IfThere Takes forms reading → Reads 0 0 0 forms (s.maybe reading)
maybe_reads forms LeftOut none = along (sym none) nothing_reads
maybe_reads forms (There reading) takes = loose takes

piece_reads : (text : Text) (first last : Bool) → Takes [] (s.piece text first last)
unfolding word
piece_reads text first last = one_reads _ 0 0 (λ token e. kind_weighs 0 0 token.kind (k.Template first last text) (refl, refl, refl) e)

pub pieces_read : (first : Bool) (texts : List Text) (forms : List FunctionForm) (values : List {1} Reading) → Each Takes forms values → Takes forms (s.pieces first texts values)
pieces_read first [] forms values each = λ from to h. absurd h
pieces_read first (text ∷ []) forms [] none = along (sym none) (piece_reads text first true)
pieces_read first (text ∷ (other ∷ texts)) forms [] none = λ from to h. absurd h
pieces_read first (text ∷ texts) forms (value ∷ values) h = along (sym h.2) (once (seq (piece_reads text first false) (seq h.3 (pieces_read false texts h.1 values h.4))))

pub braces_read : (forms : List FunctionForm) (statements : List {1} Reading) → Each Takes forms statements → Takes forms (s.braces statements)
braces_read forms statements each = in_braces (sequence_reads forms statements each)

pub guard_reads : {before : Reading} → Reads 0 0 0 [] before → (forms : List FunctionForm) (statements : Maybe (List {1} Reading)) → IfThere (Each Takes) forms statements → Reads 0 0 0 forms (s.guard before statements)
guard_reads before forms LeftOut none = along (sym none) nothing_reads
guard_reads before forms (There statements) each = loose (seq before (braces_read forms statements each))

pub object_members_read : (forms : List FunctionForm) (members : List {1} (Holder → Reading)) → Each MemberTakes forms members → Reads 0 0 0 forms (s.object_members members)
object_members_read forms [] none = along (sym none) nothing_reads
object_members_read forms (one ∷ []) h = along (sym h.2) (loose (seq (h.3 InObject) (along (sym h.4) maybe_comma_reads)))
object_members_read forms (one ∷ (two ∷ rest)) h = along (sym h.2) (loose (seq (h.3 InObject) (seq comma (object_members_read h.1 (two ∷ rest) h.4))))

pub class_members_read : (derived : Bool) (forms : List FunctionForm) (members : List {1} (Holder → Reading)) → Each MemberTakes forms members → Reads 0 0 0 forms (s.class_members derived members)
class_members_read derived forms [] none = along (sym none) semicolons_read
class_members_read derived forms (one ∷ rest) h = along (sym h.2) (loose (seq semicolons_read (seq (h.3 (InClass derived)) (class_members_read derived h.1 rest h.4))))

-- Functions and classes.

-- behind the name of a function: its parameters and its body
rest_reads : {parameters body : Reading} {fs : List FunctionForm} → Reads 0 0 0 [] parameters → Takes fs body → Takes fs (the "(" ▸ parameters ▸ the ")" ▸ body)
rest_reads parameters body = then_in_parentheses parameters body

plain_function_reads : (form : FunctionForm) {fs : List FunctionForm} {own body : Reading} → Reads 0 0 0 [] own → (parameters : List Identifier) → Takes fs body → Takes (form ∷ fs) (s.plain_function (place_of_function form) own parameters body)
unfolding word
plain_function_reads form own parameters body from to h = once (seq (the_starts "function" 0 0 (refl, refl, refl) form) (seq own (rest_reads (names_read parameters) body))) from to (h.1.0, (h.0, h.1.1), h.1.2)

arrow_reads : (form : FunctionForm) {fs : List FunctionForm} {body : Reading} (parameters : List Identifier) → Takes fs body → Takes (form ∷ fs) (here (place_of_function form) (s.arrow_names parameters ▸ same_line (the "=>") ▸ body))
unfolding word
arrow_reads form parameters body from to h = once (seq (arrow_names_start parameters form) (seq (under (λ a c. First (λ token. token.line_before ≡ false) a) (plain "=>" (refl, refl, refl))) body)) from to (h.1.0, (h.0, h.1.1), h.1.2)

pub expression_function_reads : (form : FunctionForm) (own : Option Identifier) (kind : FunctionKind) (parameters : List Identifier) {fs : List FunctionForm} (body : Bool → Reading) → ((arrow : Bool) → Takes fs (body arrow)) → Takes (form ∷ fs) (s.function_reading AsExpression (place_of_function form) own kind parameters body)
expression_function_reads form own f.Plain parameters body takes = plain_function_reads form (maybe_name_reads own) parameters (takes false)
expression_function_reads form None f.Arrow parameters body takes = arrow_reads form parameters (takes true)
expression_function_reads form _ _ parameters body takes = λ from to h. absurd h

pub statement_function_reads : (form : FunctionForm) (own : Option Identifier) (kind : FunctionKind) (parameters : List Identifier) {fs : List FunctionForm} (body : Bool → Reading) → ((arrow : Bool) → Takes fs (body arrow)) → Takes (form ∷ fs) (s.function_reading AsStatement (place_of_function form) own kind parameters body)
statement_function_reads form (Some own) f.Plain parameters body takes = plain_function_reads form (loose (name_reads own)) parameters (takes false)
statement_function_reads form _ _ parameters body takes = λ from to h. absurd h

pub default_function_reads : (form : FunctionForm) (own : Option Identifier) (kind : FunctionKind) (parameters : List Identifier) {fs : List FunctionForm} (body : Bool → Reading) → ((arrow : Bool) → Takes fs (body arrow)) → Takes (form ∷ fs) (s.function_reading AsDefault (place_of_function form) own kind parameters body)
default_function_reads form own f.Plain parameters body takes = plain_function_reads form (maybe_name_reads own) parameters (takes false)
default_function_reads form _ _ parameters body takes = λ from to h. absurd h

pub class_reads : (written : Bool) (class : Tree t.class) {fs : List FunctionForm} {more : Reading} → Reads 0 0 0 fs more → Takes (generated written class ++ fs) (here (place_of_function (Generated class)) (the "class" ▸ more))
unfolding word
class_reads true class more from to h = once (seq (plain "class" (refl, refl, refl)) more) from to h.1
class_reads false class more from to h = once (seq (the_starts "class" 0 0 (refl, refl, refl) (Generated class)) more) from to (h.1.0, (h.0, h.1.1), h.1.2)

-- Members. A method's place is that of its member, so its key stands behind it.

then_starts : {fs gs : List FunctionForm} {l n : ℕ} {r q : Reading} → Starts 1 0 0 fs r → Reads l n n gs q → Starts 1 0 0 (fs ++ gs) (r ▸ q)
then_starts starts more form from to h = once (seq (starts form) (any more)) from to (h.1.0, (h.0, h.1.1), h.1.2)

nothing_starts : {fs : List FunctionForm} {r : Reading} → Starts 1 0 0 fs r → Starts 1 0 0 fs (nothing ▸ r)
nothing_starts {r = r} starts form from to h = starts form from to (h.0, subst (λ x. r x to) (sym h.1.1) h.1.2)

accessor_reads : (kind : MemberKind) {fs : List FunctionForm} {r : Reading} → Takes fs r → Takes fs (s.accessor_word kind ▸ r)
accessor_reads m.Value takes = once (seq nothing_reads takes)
accessor_reads m.Short takes = once (seq nothing_reads takes)
accessor_reads m.Method takes = once (seq nothing_reads takes)
accessor_reads m.Getter takes = once (seq (the_name_reads "get") takes)
accessor_reads m.Setter takes = once (seq (the_name_reads "set") takes)

accessor_starts : (kind : MemberKind) {fs : List FunctionForm} {r : Reading} → Takes fs r → Starts 1 0 0 fs r → Starts 1 0 0 fs (s.accessor_word kind ▸ r)
accessor_starts m.Value takes starts = nothing_starts starts
accessor_starts m.Short takes starts = nothing_starts starts
accessor_starts m.Method takes starts = nothing_starts starts
accessor_starts m.Getter takes starts = then_starts (the_name_starts "get") takes
accessor_starts m.Setter takes starts = then_starts (the_name_starts "set") takes

member_starts : (fixed : Bool) (kind : MemberKind) {fs : List FunctionForm} {r : Reading} → Takes fs r → Starts 1 0 0 fs r → Starts 1 0 0 fs (s.static_before fixed ▸ s.accessor_word kind ▸ r)
unfolding word
member_starts true kind takes starts = then_starts (the_starts "static" 0 0 (refl, refl, refl)) (accessor_reads kind takes)
member_starts false kind takes starts = nothing_starts (accessor_starts kind takes starts)

-- the reading of a key, as it is and where a token begins it
abbrev KeyTakes : List FunctionForm → Reading → Type 0
KeyTakes forms reading = Takes forms reading × Starts 1 0 0 forms reading

function_member_reads : (form : FunctionForm) (holder : Holder) (at : ℕ) (fixed : Bool) (kind : MemberKind) (key : Tree t.key) {keys fs : List FunctionForm} (reading : Reading) (own : Option Identifier) (due : FunctionKind) (parameters : List Identifier) (body : Bool → Reading) → KeyTakes keys reading → Takes fs (body false)
    → Takes (form ∷ keys ++ fs) (s.function_member holder at fixed kind key reading (λ how. s.function_reading how (place_of_function form) own due parameters body))
function_member_reads form holder at fixed kind key reading own due parameters body keyed takes from to h =
    let function : Takes _ (s.function_reading (AsMember at (s.member_function_kind holder fixed kind key) kind) (place_of_function form) own due parameters body) = λ a c g. rest_reads (member_parameters_read kind parameters) takes a c g.1 in
    member_starts fixed kind (once (seq keyed.0 function)) (then_starts keyed.1 function) form from to (subst (λ x. First (λ token. token.at ≡ x) from) (sym h.1.1.2.2.2.0.0) h.1.0, h.1.1)

value_member_reads : (holder : Holder) (at : ℕ) (fixed : Bool) {keys fs : List FunctionForm} (key value : Reading) → Takes keys key → Takes fs value → Takes (keys ++ fs) (s.value_member holder at fixed key value)
unfolding word
value_member_reads InObject at false key value one other = under _ (once (seq one (seq (plain ":" (refl, refl, refl)) other)))
value_member_reads InObject at true key value one other = λ from to h. absurd h
value_member_reads (InClass derived) at fixed key value one other = λ from to h. absurd h

short_member_reads : (holder : Holder) (at : ℕ) (fixed : Bool) (key : Tree t.key) → Takes (functions key) (s.short_member holder at fixed key)
unfolding functions
short_member_reads InObject at false (t.KeyWord text) = name_reads _
short_member_reads _ _ _ _ = λ from to h. absurd h

-- Imports and exports, in which no function stands.

outer_name_reads : (identifier : Identifier) → Takes [] (s.outer_name identifier)
unfolding word
outer_name_reads identifier = either (name_reads identifier) (under _ (under _ (plain "default" (refl, refl, refl))))

pair_reads : (both taken given_name : Identifier → Reading) → ((one : Identifier) → Takes [] (both one)) → ((one : Identifier) → Takes [] (taken one)) → ((one : Identifier) → Takes [] (given_name one)) → (pair : Pair) → Takes [] (s.pair both taken given_name pair)
pair_reads both taken given_name b c d pair = either (under _ (b pair.given)) (once (seq (c pair.taken) (seq (the_name_reads "as") (d pair.given))))

imported_reads : (pair : Pair) → Takes [] (s.imported pair)
imported_reads pair = pair_reads name s.outer_name name name_reads outer_name_reads name_reads pair

pub exported_from_reads : (pair : Pair) → Takes [] (s.exported_from pair)
exported_from_reads pair = pair_reads s.outer_name s.outer_name s.outer_name outer_name_reads outer_name_reads outer_name_reads pair

pub exported_reads : (pair : Pair) → Takes [] (s.exported pair)
exported_reads pair = pair_reads name name s.outer_name name_reads name_reads outer_name_reads pair

pairs_read : (each : Pair → Reading) → ((pair : Pair) → Takes [] (each pair)) → (list : List Pair) → Reads 0 0 0 [] (s.pairs each list)
pairs_read each takes [] = nothing_reads
pairs_read each takes (one ∷ []) = loose (seq (takes one) maybe_comma_reads)
pairs_read each takes (one ∷ (two ∷ rest)) = loose (seq (takes one) (seq comma (pairs_read each takes (two ∷ rest))))

pub braced_reads : (each : Pair → Reading) → ((pair : Pair) → Takes [] (each pair)) → (list : List Pair) → Takes [] (s.braced each list)
braced_reads each takes list = in_braces (pairs_read each takes list)

default_name_reads : (pair : Pair) → Takes [] (s.default_name pair)
default_name_reads pair = under _ (name_reads pair.given)

default_list_reads : (list : List Pair) → Takes [] (s.default_list list)
default_list_reads [] = λ from to h. absurd h
default_list_reads (one ∷ []) = once (seq (default_name_reads one) (either nothing_reads (loose (seq comma (braced_reads s.imported imported_reads [])))))
default_list_reads (one ∷ (two ∷ rest)) = once (seq (default_name_reads one) (seq comma (braced_reads s.imported imported_reads (two ∷ rest))))

pub import_list_reads : (list : List Pair) → Reads 0 0 0 [] (s.import_list list)
import_list_reads list = either (under _ nothing_reads) (loose (seq (either (braced_reads s.imported imported_reads list) (default_list_reads list)) (the_name_reads "from")))

pub module_name_reads : (text : Text) → Takes [] (s.module_name text)
module_name_reads text = one_reads _ 0 0 (λ token e. kind_weighs 0 0 token.kind (k.String text) (string_weighs text) e)

pub property_reads : (text : Text) → Takes [] (property text)
property_reads text = one_reads _ 0 0 (λ token e. property_weighs token.kind text e)

pub property_starts : (text : Text) → Starts 1 0 0 [] (property text)
property_starts text = one_starts _ 0 0 (λ token e. property_weighs token.kind text e)

-- what is claimed of the readings of a sort, in which these functions stand
abbrev pub Claim : (s : t.Sort) → List FunctionForm → Spelled s → Type 0
Claim (t.list s) forms readings = Each (Claim s) forms readings
Claim (t.option s) forms reading = IfThere (Claim s) forms reading
Claim t.member forms reading = MemberTakes forms reading
Claim t.function forms reading = Takes forms (reading AsExpression) × Takes forms (reading AsStatement) × Takes forms (reading AsDefault)
Claim t.class forms reading = (named : Bool) → Takes forms (reading named)
Claim t.body forms reading = (arrow : Bool) → Takes forms (reading arrow)
Claim t.default forms reading = (mark : Semi) → Takes forms (reading mark)
Claim t.head forms reading = Reads 0 0 0 forms reading
Claim t.key forms reading = KeyTakes forms reading
Claim t.expression forms reading = Takes forms reading
Claim t.declarator forms reading = Takes forms reading
Claim t.case forms reading = Takes forms reading
Claim t.statement forms reading = Takes forms reading
Claim t.item forms reading = Takes forms reading

-- the arguments of a call, in parentheses
pub arguments_read : (fact : Type 0) (forms : List FunctionForm) (readings : List {1} Reading) → Each Takes forms readings → Takes forms (the "(" ▸ (λ from to. fact × s.separated readings from to) ▸ the ")")
arguments_read fact forms readings each = in_parentheses (under (λ from to. fact) (separated_read forms readings each))

-- a member with no function of its own
pub bare_member_reads : (holder : Holder) (at : ℕ) (fixed : Bool) (kind : MemberKind) (key : Tree t.key) (values : List FunctionForm) (reading : Reading) (value : Maybe Reading) → KeyTakes (functions key) reading → IfThere Takes values value → Takes (functions key ++ values) (s.member_reading holder at fixed kind key reading value LeftOut)
bare_member_reads holder at fixed m.Value key values reading (There value) keyed takes = value_member_reads holder at fixed reading value keyed.0 takes
bare_member_reads holder at fixed m.Short key values reading LeftOut keyed none = along (sym (ap (λ values. functions key ++ values) none ∙ append-nil (functions key))) (short_member_reads holder at fixed key)
bare_member_reads _ _ _ _ _ _ _ LeftOut keyed takes = λ from to h. absurd h
bare_member_reads _ _ _ _ _ _ _ (There _) keyed takes = λ from to h. absurd h

-- a member with a function
pub with_function_reads : (form : FunctionForm) (holder : Holder) (at : ℕ) (fixed : Bool) (kind : MemberKind) (key : Tree t.key) (values : List FunctionForm) {fs : List FunctionForm} (reading : Reading) (value : Maybe Reading) (own : Option Identifier) (due : FunctionKind) (parameters : List Identifier) (body : Bool → Reading) → KeyTakes (functions key) reading → IfThere Takes values value → Takes fs (body false)
    → Takes (form ∷ functions key ++ (values ++ fs)) (s.member_reading holder at fixed kind key reading value (There (λ how. s.function_reading how (place_of_function form) own due parameters body)))
with_function_reads form holder at fixed m.Method key values {fs = fs} reading LeftOut own due parameters body keyed none takes = along (ap (λ values. form ∷ functions key ++ (values ++ fs)) (sym none)) (function_member_reads form holder at fixed m.Method key reading own due parameters body keyed takes)
with_function_reads form holder at fixed m.Getter key values {fs = fs} reading LeftOut own due parameters body keyed none takes = along (ap (λ values. form ∷ functions key ++ (values ++ fs)) (sym none)) (function_member_reads form holder at fixed m.Getter key reading own due parameters body keyed takes)
with_function_reads form holder at fixed m.Setter key values {fs = fs} reading LeftOut own due parameters body keyed none takes = along (ap (λ values. form ∷ functions key ++ (values ++ fs)) (sym none)) (function_member_reads form holder at fixed m.Setter key reading own due parameters body keyed takes)
with_function_reads _ _ _ _ m.Value _ _ _ LeftOut _ _ _ _ keyed takes others = λ from to h. absurd h
with_function_reads _ _ _ _ m.Value _ _ _ (There _) _ _ _ _ keyed takes others = λ from to h. absurd h
with_function_reads _ _ _ _ m.Short _ _ _ LeftOut _ _ _ _ keyed takes others = λ from to h. absurd h
with_function_reads _ _ _ _ _ _ _ _ _ _ _ _ _ keyed takes others = λ from to h. absurd h

-- the key between its brackets
pub computed_reads : {fs : List FunctionForm} {r : Reading} → Takes fs r → KeyTakes fs (the "[" ▸ r ▸ the "]")
unfolding word
computed_reads takes = (in_brackets takes, λ form from to h. once (seq (the_starts "[" 1 0 (refl, refl, refl) form) (behind takes closing_bracket)) from to (h.1.0, (h.0, h.1.1), h.1.2))

-- The other words of the forms.

pub word_this : Takes [] (the "this")
unfolding word
word_this = plain "this" (refl, refl, refl)

pub word_null : Takes [] (the "null")
unfolding word
word_null = plain "null" (refl, refl, refl)

pub word_true : Takes [] (the "true")
unfolding word
word_true = plain "true" (refl, refl, refl)

pub word_false : Takes [] (the "false")
unfolding word
word_false = plain "false" (refl, refl, refl)

pub word_point : Takes [] (the ".")
unfolding word
word_point = plain "." (refl, refl, refl)

pub word_super : Takes [] (the "super")
unfolding word
word_super = plain "super" (refl, refl, refl)

pub word_new : Takes [] (the "new")
unfolding word
word_new = plain "new" (refl, refl, refl)

pub word_typeof : Takes [] (the "typeof")
unfolding word
word_typeof = plain "typeof" (refl, refl, refl)

pub word_void : Takes [] (the "void")
unfolding word
word_void = plain "void" (refl, refl, refl)

pub word_delete : Takes [] (the "delete")
unfolding word
word_delete = plain "delete" (refl, refl, refl)

pub word_in : Takes [] (the "in")
unfolding word
word_in = plain "in" (refl, refl, refl)

pub word_instanceof : Takes [] (the "instanceof")
unfolding word
word_instanceof = plain "instanceof" (refl, refl, refl)

pub word_and : Takes [] (the "&&")
unfolding word
word_and = plain "&&" (refl, refl, refl)

pub word_or : Takes [] (the "||")
unfolding word
word_or = plain "||" (refl, refl, refl)

pub word_nullish : Takes [] (the "??")
unfolding word
word_nullish = plain "??" (refl, refl, refl)

pub word_question : Takes [] (the "?")
unfolding word
word_question = plain "?" (refl, refl, refl)

pub word_colon : Takes [] (the ":")
unfolding word
word_colon = plain ":" (refl, refl, refl)

pub word_extends : Takes [] (the "extends")
unfolding word
word_extends = plain "extends" (refl, refl, refl)

pub word_equals : Takes [] (the "=")
unfolding word
word_equals = plain "=" (refl, refl, refl)

pub word_if : Takes [] (the "if")
unfolding word
word_if = plain "if" (refl, refl, refl)

pub word_else : Takes [] (the "else")
unfolding word
word_else = plain "else" (refl, refl, refl)

pub word_for : Takes [] (the "for")
unfolding word
word_for = plain "for" (refl, refl, refl)

pub word_while : Takes [] (the "while")
unfolding word
word_while = plain "while" (refl, refl, refl)

pub word_do : Takes [] (the "do")
unfolding word
word_do = plain "do" (refl, refl, refl)

pub word_break : Takes [] (the "break")
unfolding word
word_break = plain "break" (refl, refl, refl)

pub word_continue : Takes [] (the "continue")
unfolding word
word_continue = plain "continue" (refl, refl, refl)

pub word_return : Takes [] (the "return")
unfolding word
word_return = plain "return" (refl, refl, refl)

pub word_throw : Takes [] (the "throw")
unfolding word
word_throw = plain "throw" (refl, refl, refl)

pub word_try : Takes [] (the "try")
unfolding word
word_try = plain "try" (refl, refl, refl)

pub word_catch : Takes [] (the "catch")
unfolding word
word_catch = plain "catch" (refl, refl, refl)

pub word_finally : Takes [] (the "finally")
unfolding word
word_finally = plain "finally" (refl, refl, refl)

pub word_switch : Takes [] (the "switch")
unfolding word
word_switch = plain "switch" (refl, refl, refl)

pub word_default : Takes [] (the "default")
unfolding word
word_default = plain "default" (refl, refl, refl)

pub word_case : Takes [] (the "case")
unfolding word
word_case = plain "case" (refl, refl, refl)

pub word_import : Takes [] (the "import")
unfolding word
word_import = plain "import" (refl, refl, refl)

pub word_export : Takes [] (the "export")
unfolding word
word_export = plain "export" (refl, refl, refl)
