-- What holds of each mention of a module whose functions' places ascend: the functions round it begin
-- one before the other, the outermost first; and what it means is a name of the module's top, or is
-- bound in a function round it by another mention, or is the `this` of a function further out.
use Rattle.std.proofs.Common.{◌≡◌, ℕ, suc, ◌<◌, ◌≤◌, ◌⊎◌, Bool, true, false, ◌||◌, ◌==◌, List, [], ◌∷◌, ◌++◌, Option, Some, None, refl, ap, sym, ◌∙◌, subst, append_assoc, inl, inr, arith}
use Rattle.es_model.specs.declared.kinds.FunctionKind.{FunctionKind}
use Rattle.es_model.specs.declared.kinds.FunctionKind.TheVariants as f
use Rattle.es_model.specs.declared.kinds.MemberKind.{MemberKind}
use Rattle.es_model.specs.declared.kinds.MemberKind.TheVariants as m
use Rattle.es_model.specs.declared.names.Identifier.{Identifier}
use Rattle.es_model.specs.Tokens.{same_text}
use Rattle.es_model.specs.Tree as t
use Rattle.es_model.specs.Tree.{Tree, Text}
use Rattle.es_model.specs.Functions.{FunctionForm, Written, functions, generated, writes_constructor}
use Rattle.es_model.specs.SyntaxLaws.{place_of_function, FunctionsAscendFrom}
use Rattle.es_model.specs.Scopes.{Enclosing, Role, Top, Imported, Inner, Own, Binding, Setting, Gathers, gather, find_binding, bind, within, in_body_of_loop, in_cases, in_function, own_name, named, function_name, class_name, given_names, default_names, declarator_names, declared_by, declared, declared_in_cases, declared_by_head, declared_in, declared_by_body, declared_by_catch, top_declared, imports, top_bindings, top_setting}
use Rattle.es_model.specs.FreeNames.{Mentioned, Binds, Refers, Free, Temporary, Mention, mention, binds, refers, receiver, in_arrow, is_top, role_number, mentions_at, mentions}
use Rattle.es_model.proofs.Places.{same_text-true}

-- the functions round a place begin one before the other, and all of them below `high`
abbrev pub Descends : ℕ → List Enclosing → Type 0
Descends high [] = Unit {0}
Descends high (one ∷ rest) = (one.at < high) × Descends one.at rest

-- functions that stand round a place are these, or the outer ones of these
abbrev pub OuterOf : List Enclosing → List Enclosing → Type 0
OuterOf [] outer = [] ≡ outer
OuterOf (one ∷ rest) outer = (one ∷ rest ≡ outer) ⊎ OuterOf rest outer

-- a list has an element
abbrev pub Among : {A : Type 0} → List A → A → Type 0
Among [] one = ⊥
Among (other ∷ rest) one = (other ≡ one) ⊎ Among rest one

-- what is known of a binding that is mentioned within some functions
pub data Known (all : List Mention) (tops : List Binding) (round : List Enclosing) (binding : Binding) : Type 0 where
  at_top : is_top binding ≡ true → binding.lies ≡ [] → Among tops binding → Known all tops round binding
  bound : is_top binding ≡ false → OuterOf round binding.lies → Among all (record { round = binding.lies; what = Binds binding }) → Known all tops round binding
  this_of : is_top binding ≡ false → (one : Enclosing) (rest : List Enclosing) → round ≡ one ∷ rest → OuterOf rest binding.lies → Known all tops round binding

abbrev pub KnownWhat : List Mention → List Binding → List Enclosing → Mentioned → Type 0
KnownWhat all tops round (Binds binding) = Known all tops round binding
KnownWhat all tops round (Refers binding) = Known all tops round binding
KnownWhat all tops round (Free name) = Unit {0}
KnownWhat all tops round Temporary = Unit {0}

pub record Sound (all : List Mention) (tops : List Binding) (one : Mention) : Type 0 where
  pub high : ℕ
  pub descends : Descends high one.round
  pub known : KnownWhat all tops one.round one.what

-- what holds of a setting
abbrev Sees : List Mention → List Binding → List Enclosing → List Binding → Type 0
Sees all tops round sees = (name : Text) (binding : Binding) → find_binding name sees ≡ Some binding → Known all tops round binding

abbrev Fits : List Mention → List Binding → ℕ → Setting → Type 0
Fits all tops low g = Descends low g.round × Sees all tops g.round g.sees

abbrev Part : List Mention → List Mention → Type 0
Part all list = (one : Mention) → Among list one → Among all one

-- mentions that are sound where they are some of all, and where the places of these functions ascend
record Good (all : List Mention) (tops : List Binding) (low : ℕ) (list : List Mention) (fs : List FunctionForm) : Type 0 where
  each : FunctionsAscendFrom low fs → Part all list → (one : Mention) → Among list one → Sound all tops one

-- Lists.

whole : (round : List Enclosing) → OuterOf round round
whole [] = refl
whole (one ∷ rest) = inl refl

lowered : (low high : ℕ) (fs : List FunctionForm) → low ≤ high → FunctionsAscendFrom high fs → FunctionsAscendFrom low fs
lowered low high [] le h = tt
lowered low high (form ∷ fs) le h = (omega (arith, le, h.0), h.1)

raised : (low high : ℕ) (round : List Enclosing) → low ≤ high → Descends low round → Descends high round
raised low high [] le h = tt
raised low high (one ∷ rest) le h = (omega (arith, le, h.0), h.1)

front : (low : ℕ) (fs gs : List FunctionForm) → FunctionsAscendFrom low (fs ++ gs) → FunctionsAscendFrom low fs
front low [] gs h = tt
front low (form ∷ fs) gs h = (h.0, front (suc (place_of_function form)) fs gs h.1)

rest_of : (low : ℕ) (fs gs : List FunctionForm) → FunctionsAscendFrom low (fs ++ gs) → FunctionsAscendFrom low gs
rest_of low [] gs h = h
rest_of low (form ∷ fs) gs h = lowered low (suc (place_of_function form)) gs (omega (arith, h.0)) (rest_of (suc (place_of_function form)) fs gs h.1)

pub among_front : {A : Type 0} → (list others : List A) (one : A) → Among list one → Among (list ++ others) one
among_front [] others one h = absurd h
among_front (other ∷ list) others one (inl e) = inl e
among_front (other ∷ list) others one (inr h) = inr (among_front list others one h)

pub among_rest : {A : Type 0} → (list others : List A) (one : A) → Among others one → Among (list ++ others) one
among_rest [] others one h = h
among_rest (other ∷ list) others one h = inr (among_rest list others one h)

pub among_either : {A : Type 0} → (list others : List A) (one : A) → Among (list ++ others) one → Among list one ⊎ Among others one
among_either [] others one h = inr h
among_either (other ∷ list) others one (inl e) = inl (inl e)
among_either (other ∷ list) others one (inr h) = elim (among_either list others one h) [ inl g ↦ inl (inr g) | inr g ↦ inr g ]

-- Putting them together.

both_of : {all : List Mention} {tops : List Binding} {low : ℕ} {l m : List Mention} {fs gs hs : List FunctionForm} → (FunctionsAscendFrom low hs → FunctionsAscendFrom low fs × FunctionsAscendFrom low gs) → Good all tops low l fs → Good all tops low m gs → Good all tops low (l ++ m) hs
both_of {l = l} {m = m} split x y = record {
  each = λ ascend part one h. elim (among_either l m one h) [
    | inl g ↦ x.each (split ascend).0 (λ other k. part other (among_front l m other k)) one g
    | inr g ↦ y.each (split ascend).1 (λ other k. part other (among_rest l m other k)) one g
  ];
}

both : {all : List Mention} {tops : List Binding} {low : ℕ} {l m : List Mention} {fs gs : List FunctionForm} → Good all tops low l fs → Good all tops low m gs → Good all tops low (l ++ m) (fs ++ gs)
both {low = low} {fs = fs} {gs = gs} x y = both_of (λ ascend. (front low fs gs ascend, rest_of low fs gs ascend)) x y

no_mentions : {all : List Mention} {tops : List Binding} {low : ℕ} → Good all tops low [] []
no_mentions = record { each = λ ascend part one h. absurd h }

before_none : {all : List Mention} {tops : List Binding} {low : ℕ} {l : List Mention} {fs : List FunctionForm} → Good all tops low l fs → Good all tops low (l ++ []) fs
before_none x = both_of (λ ascend. (ascend, tt)) x no_mentions

inside : {all : List Mention} {tops : List Binding} {low : ℕ} {l : List Mention} {fs : List FunctionForm} → (Part all l → Good all tops low l fs) → Good all tops low l fs
inside f = record { each = λ ascend part. (f part).each ascend part }

-- One mention, and the mentions of names.

one_good : {all : List Mention} {tops : List Binding} {low : ℕ} (g : Setting) (what : Mentioned) → Fits all tops low g → KnownWhat all tops g.round what → Good all tops low (mention g what) []
one_good {all} {tops} {low} g what fits known = record {
  each = λ ascend part one h. elim h [
    | inl e ↦ subst (Sound all tops) e (record { high = low; descends = fits.0; known = known })
    | inr h ↦ absurd h
  ];
}

binds_good : {all : List Mention} {tops : List Binding} {low : ℕ} (g : Setting) (names : List Identifier) → Fits all tops low g → Good all tops low (binds g names) []
binds_good g [] fits = no_mentions
binds_good {all} {tops} {low} g (one ∷ names) fits = by (find_binding one.name g.sees) refl (binds_good g names fits)
  where
    by : (o : Option Binding) → find_binding one.name g.sees ≡ o → Good all tops low (binds g names) [] → Good all tops low (elim o [ Some binding ↦ mention g (Binds binding) ++ binds g names | None ↦ binds g names ]) []
    by (Some binding) e more = both (one_good g (Binds binding) fits (fits.1 one.name binding e)) more
    by None e more = more

refers_good : {all : List Mention} {tops : List Binding} {low : ℕ} (g : Setting) (name : Text) → Fits all tops low g → Good all tops low (refers g name) []
refers_good {all} {tops} {low} g name fits = by (find_binding name g.sees) refl
  where
    by : (o : Option Binding) → find_binding name g.sees ≡ o → Good all tops low (elim o [ Some binding ↦ mention g (Refers binding) | None ↦ mention g (Free name) ]) []
    by (Some binding) e = one_good g (Refers binding) fits (fits.1 name binding e)
    by None e = one_good g (Free name) fits tt

-- the `this` that an arrow has is that of a function further out, or the module's
receiver_outer : (round : List Enclosing) → OuterOf round (receiver round).lies
receiver_outer [] = refl
receiver_outer (one ∷ rest) = by one.kind (receiver_outer rest)
  where
    by : (kind : FunctionKind) → OuterOf rest (receiver rest).lies → OuterOf (record { at = one.at; kind = kind } ∷ rest) (receiver (record { at = one.at; kind = kind } ∷ rest)).lies
    by f.Arrow h = inr h
    by _ h = inl refl

receiver_no_top : (round : List Enclosing) → is_top (receiver round) ≡ false
receiver_no_top [] = refl
receiver_no_top (one ∷ rest) = by one.kind (receiver_no_top rest)
  where
    by : (kind : FunctionKind) → is_top (receiver rest) ≡ false → is_top (receiver (record { at = one.at; kind = kind } ∷ rest)) ≡ false
    by f.Arrow h = h
    by _ h = refl

this_good : {all : List Mention} {tops : List Binding} {low : ℕ} (g : Setting) → Fits all tops low g → Good all tops low (elim (in_arrow g.round) [ true ↦ mention g (Refers (receiver g.round)) | false ↦ [] ]) []
this_good {all} {tops} {low} g fits = by g.round refl
  where
    arrow : (one : Enclosing) (rest : List Enclosing) → g.round ≡ one ∷ rest → (kind : FunctionKind) → one ≡ record { at = one.at; kind = kind } → Good all tops low (elim (in_arrow (record { at = one.at; kind = kind } ∷ rest)) [ true ↦ mention g (Refers (receiver (record { at = one.at; kind = kind } ∷ rest))) | false ↦ [] ]) []
    arrow one rest e f.Arrow k = one_good g (Refers (receiver rest)) fits (this_of (receiver_no_top rest) one rest e (receiver_outer rest))
    arrow one rest e _ k = no_mentions

    by : (round : List Enclosing) → g.round ≡ round → Good all tops low (elim (in_arrow round) [ true ↦ mention g (Refers (receiver round)) | false ↦ [] ]) []
    by [] e = no_mentions
    by (one ∷ rest) e = arrow one rest e one.kind refl

-- Names that are found.

some_is : {a b : Binding} → Some a ≡ Some b → a ≡ b
some_is e = cc e

-- a name is found in a scope's names, or as before
found : (role : Role) (lies : List Enclosing) (name : Text) (names : List Identifier) (sees : List Binding) (binding : Binding) → find_binding name (bind role lies names ++ sees) ≡ Some binding
    → ((one : Identifier) × Among names one × (name ≡ one.name) × (record { name = one.name; at = one.at; role = role; lies = lies } ≡ binding)) ⊎ (find_binding name sees ≡ Some binding)
found role lies name [] sees binding e = inr e
found role lies name (one ∷ names) sees binding e = by (same_text name one.name) refl e (found role lies name names sees binding)
  where
    by : (same : Bool) → same_text name one.name ≡ same → elim same [ true ↦ Some (record { name = one.name; at = one.at; role = role; lies = lies }) | false ↦ find_binding name (bind role lies names ++ sees) ] ≡ Some binding
        → (find_binding name (bind role lies names ++ sees) ≡ Some binding → ((other : Identifier) × Among names other × (name ≡ other.name) × (record { name = other.name; at = other.at; role = role; lies = lies } ≡ binding)) ⊎ (find_binding name sees ≡ Some binding))
        → ((other : Identifier) × Among (one ∷ names) other × (name ≡ other.name) × (record { name = other.name; at = other.at; role = role; lies = lies } ≡ binding)) ⊎ (find_binding name sees ≡ Some binding)
    by true same e more = inl (one, inl refl, same_text-true name one.name same, some_is e)
    by false same e more = elim (more e) [ inl h ↦ inl (h.0, inr h.1, h.2, h.3) | inr h ↦ inr h ]

-- each of some names is bound by one of all mentions
abbrev Declares : List Mention → List Enclosing → List Binding → List Identifier → Type 0
Declares all round sees names = (one : Identifier) → Among names one → (binding : Binding) → find_binding one.name sees ≡ Some binding → Among all (record { round = round; what = Binds binding })

seen : {all : List Mention} {tops : List Binding} (role : Role) (round : List Enclosing) (names : List Identifier) (sees : List Binding) → ((role_number role == 0) || (role_number role == 1)) ≡ false → Declares all round (bind role round names ++ sees) names → Sees all tops round sees → Sees all tops round (bind role round names ++ sees)
seen {all} {tops} role round names sees low_role declares before name binding e = elim (found role round name names sees binding e) [
  | inl h ↦
      let declared : Among all (record { round = round; what = Binds binding }) = declares h.0 h.1 binding (subst (λ text. find_binding text (bind role round names ++ sees) ≡ Some binding) h.2 e) in
      let lies : round ≡ binding.lies = ap (λ b. b.lies) h.3 in
      bound (subst (λ b. is_top b ≡ false) h.3 low_role) (subst (OuterOf round) lies (whole round)) (subst (λ l. Among all (record { round = l; what = Binds binding })) lies declared)
  | inr h ↦ before name binding h
]

-- what is known within some functions is known within one more
deeper : {all : List Mention} {tops : List Binding} (one : Enclosing) (round : List Enclosing) (binding : Binding) → Known all tops round binding → Known all tops (one ∷ round) binding
deeper one round binding (at_top top lies among) = at_top top lies among
deeper one round binding (bound top outer among) = bound top (inr outer) among
deeper one round binding (this_of top other rest e outer) = this_of top one round refl (subst (λ l. OuterOf l binding.lies) (sym e) (inr outer))

entered : {all : List Mention} {tops : List Binding} (low : ℕ) (role : Role) (names : List Identifier) (g : Setting) → ((role_number role == 0) || (role_number role == 1)) ≡ false → Fits all tops low g → Declares all g.round (bind role g.round names ++ g.sees) names → Fits all tops low (within role names g)
entered low role names g low_role fits declares = (fits.0, seen role g.round names g.sees low_role declares fits.1)

-- Declarations bind their names.

abbrev walk : Gathers Mention
walk = record { at_node = λ s g tree. mentions_at {s = s} g tree; at_catch = λ g name. binds g (named name) }

names_bound : (g : Setting) (names : List Identifier) → Declares (binds g names) g.round g.sees names
names_bound g [] one h binding e = absurd h
names_bound g (other ∷ names) one h binding e = by (find_binding other.name g.sees) refl h (λ k. names_bound g names one k binding e)
  where
    by : (o : Option Binding) → find_binding other.name g.sees ≡ o → (other ≡ one) ⊎ Among names one → (Among names one → Among (binds g names) (record { round = g.round; what = Binds binding }))
        → Among (elim o [ Some b ↦ mention g (Binds b) ++ binds g names | None ↦ binds g names ]) (record { round = g.round; what = Binds binding })
    by (Some b) f (inl same) more = inl (ap (λ x. record { round = g.round; what = Binds x }) (some_is (sym f ∙ ap (λ x. find_binding x.name g.sees) same ∙ e)))
    by None f (inl same) more = absurd (none_is (sym f ∙ ap (λ x. find_binding x.name g.sees) same ∙ e))
      where
        none_is : None ≡ Some binding → ⊥
        none_is e = cc e
    by (Some b) f (inr k) more = inr (more k)
    by None f (inr k) more = more k

declarators_bound : (g : Setting) (declarators : Tree (t.list t.declarator)) → Declares (gather walk g declarators) g.round g.sees (declarator_names declarators)
unfolding gather
declarators_bound g t.none one h binding e = absurd h
declarators_bound g (t.more (t.DeclaratorOf name value) rest) one (inl same) binding e = among_front (binds g (name ∷ []) ++ gather walk g value) (gather walk g rest) _ (among_front (binds g (name ∷ [])) (gather walk g value) _ (names_bound g (name ∷ []) one (inl same) binding e))
declarators_bound g (t.more (t.DeclaratorOf name value) rest) one (inr h) binding e = among_rest (binds g (name ∷ []) ++ gather walk g value) (gather walk g rest) _ (declarators_bound g rest one h binding e)

statement_bound : (g : Setting) (statement : Tree t.statement) → Declares (gather walk g statement) g.round g.sees (declared_by statement)
unfolding gather
statement_bound g (t.Declare constant declarators semi) one h binding e = declarators_bound g declarators one h binding e
statement_bound g (t.FunctionStatement function) one h binding e = among_front (binds g (function_name function)) (gather walk g function) _ (names_bound g (function_name function) one h binding e)
statement_bound g (t.ClassStatement class) one h binding e = among_front (binds g (class_name class)) (gather walk g class) _ (names_bound g (class_name class) one h binding e)
statement_bound g _ one h binding e = absurd h

statements_bound : (g : Setting) (statements : Tree (t.list t.statement)) → Declares (gather walk g statements) g.round g.sees (declared statements)
unfolding gather
statements_bound g t.none one h binding e = absurd h
statements_bound g (t.more statement rest) one h binding e = elim (among_either (declared_by statement) (declared rest) one h) [
  | inl k ↦ among_front (gather walk g statement) (gather walk g rest) _ (statement_bound g statement one k binding e)
  | inr k ↦ among_rest (gather walk g statement) (gather walk g rest) _ (statements_bound g rest one k binding e)
]

cases_bound : (g : Setting) (cases : Tree (t.list t.case)) → Declares (gather walk g cases) g.round g.sees (declared_in_cases cases)
unfolding gather
cases_bound g t.none one h binding e = absurd h
cases_bound g (t.more (t.CaseOf test body) rest) one h binding e = elim (among_either (declared body) (declared_in_cases rest) one h) [
  | inl k ↦ among_front (gather walk g test ++ gather walk g body) (gather walk g rest) _ (among_rest (gather walk g test) (gather walk g body) _ (statements_bound g body one k binding e))
  | inr k ↦ among_rest (gather walk g test ++ gather walk g body) (gather walk g rest) _ (cases_bound g rest one k binding e)
]

head_bound : (g : Setting) (head : Tree t.head) → Declares (gather walk g head) g.round g.sees (declared_by_head head)
unfolding gather
head_bound g (t.HeadDeclare constant declarators) one h binding e = declarators_bound g declarators one h binding e
head_bound g _ one h binding e = absurd h

block_bound : (g : Setting) (block : Tree (t.option (t.list t.statement))) → Declares (gather walk g block) g.round g.sees (declared_in block)
unfolding gather
block_bound g t.absent one h binding e = absurd h
block_bound g (t.present statements) one h binding e = statements_bound g statements one h binding e

body_bound : (g : Setting) (body : Tree t.body) → Declares (gather walk g body) g.round g.sees (declared_by_body body)
unfolding gather
body_bound g (t.BodyStatements statements) one h binding e = statements_bound g statements one h binding e
body_bound g (t.BodyExpression value) one h binding e = absurd h

catch_bound : (g : Setting) (caught : Option Identifier) (catch : Tree (t.option (t.list t.statement))) → Declares (binds g (named caught) ++ gather walk g catch) g.round g.sees (declared_by_catch caught catch)
unfolding gather
catch_bound g caught t.absent one h binding e = absurd h
catch_bound g caught (t.present statements) one h binding e = elim (among_either (named caught) (declared statements) one h) [
  | inl k ↦ among_front (binds g (named caught)) (gather walk g statements) _ (names_bound g (named caught) one k binding e)
  | inr k ↦ among_rest (binds g (named caught)) (gather walk g statements) _ (statements_bound g statements one k binding e)
]

-- Forms that have mentions or scopes of their own.

abbrev IsGood : List Mention → List Binding → {s : t.Sort} → Tree s → Type 0
IsGood all tops {s} tree = (low : ℕ) (g : Setting) → Fits all tops low g → Good all tops low (gather walk g tree) (functions tree)

member_node : {all : List Mention} {tops : List Binding} {low : ℕ} (g : Setting) (at : ℕ) (fixed : Bool) (kind : MemberKind) (key : Tree t.key) (value : Tree (t.option t.expression)) (function : Tree (t.option t.function)) → Fits all tops low g → Good all tops low (mentions_at g (t.MemberOf at fixed kind key value function)) []
member_node g at fixed m.Short (t.KeyWord name) value function fits = refers_good g name fits
member_node g at fixed _ _ value function fits = no_mentions

member_form : {all : List Mention} {tops : List Binding} (at : ℕ) (fixed : Bool) (kind : MemberKind) (key : Tree t.key) (value : Tree (t.option t.expression)) (function : Tree t.function) → IsGood all tops key → IsGood all tops value → IsGood all tops function → IsGood all tops (t.MemberOf at fixed kind key value (t.present function))
unfolding gather functions
member_form at fixed kind key value (t.FunctionOf place name own parameters body) keys values bodies low g fits =
    let form : FunctionForm = Written (t.FunctionOf place name own parameters body) in
    let fs : List FunctionForm = form ∷ functions key ++ (functions value ++ functions body) in
    let behind : FunctionsAscendFrom low fs → FunctionsAscendFrom (suc place) (functions value ++ functions body) = λ ascend. rest_of (suc place) (functions key) (functions value ++ functions body) ascend.1 in
    both_of {gs = fs} {hs = fs} (λ ascend. (tt, ascend)) (member_node g at fixed kind key value (t.present (t.FunctionOf place name own parameters body)) fits)
    (both_of {gs = fs} {hs = fs} (λ ascend. (lowered low (suc place) (functions key) (omega (arith, ascend.0)) (front (suc place) (functions key) (functions value ++ functions body) ascend.1), ascend)) (keys low g fits)
    (both_of {gs = form ∷ functions body} {hs = fs} (λ ascend. (lowered low (suc place) (functions value) (omega (arith, ascend.0)) (front (suc place) (functions value) (functions body) (behind ascend)), (ascend.0, rest_of (suc place) (functions value) (functions body) (behind ascend))))
    (values low g fits) (bodies low g fits)))

function_form : {all : List Mention} {tops : List Binding} (at : ℕ) (name : Option Identifier) (kind : FunctionKind) (parameters : List Identifier) (body : Tree t.body) → IsGood all tops body → IsGood all tops (t.FunctionOf at name kind parameters body)
unfolding gather functions
function_form {all} {tops} at name kind parameters body body_good low g fits = record {
  each = λ ascend part.
      let h : Setting = in_function at kind parameters body g in
      let declares : Declares all h.round h.sees (parameters ++ declared_by_body body) = λ one k binding e. part _ (elim (among_either parameters (declared_by_body body) one k) [
        | inl k ↦ among_front (binds h parameters) (gather walk h body) _ (names_bound h parameters one k binding e)
        | inr k ↦ among_rest (binds h parameters) (gather walk h body) _ (body_bound h body one k binding e)
      ]) in
      let sees : Sees all tops h.round h.sees = seen Inner h.round (parameters ++ declared_by_body body) g.sees refl declares (λ name binding e. deeper (record { at = at; kind = kind }) g.round binding (fits.1 name binding e)) in
      let inner_fits : Fits all tops (suc at) h = ((omega arith, raised low at g.round ascend.0 fits.0), sees) in
      (both (binds_good h parameters inner_fits) (body_good (suc at) h inner_fits)).each ascend.1 part;
}

expression_function : {all : List Mention} {tops : List Binding} (function : Tree t.function) → IsGood all tops function → IsGood all tops (t.Function function)
unfolding gather functions
expression_function function function_good low g fits = inside (λ part.
    let h : Setting = own_name (function_name function) g in
    let own = entered low Own (function_name function) g refl fits (λ one k binding e. part _ (among_front (binds h (function_name function)) (gather walk h function) _ (names_bound h (function_name function) one k binding e))) in
    both (binds_good h (function_name function) own) (function_good low h own))

class_form : {all : List Mention} {tops : List Binding} (at : ℕ) (name : Option Identifier) (parent : Tree (t.option t.expression)) (members : Tree (t.list t.member)) → IsGood all tops parent → IsGood all tops members → IsGood all tops (t.ClassOf at name parent members)
unfolding gather functions
class_form at name parent members parent_good members_good low g fits = inside (λ part.
    let h : Setting = own_name (named name) g in
    let own = entered low Own (named name) g refl fits (λ one k binding e. part _ (among_front (binds h (named name)) (gather walk h parent ++ gather walk h members) _ (names_bound h (named name) one k binding e))) in
    both_of (λ ascend. (tt, rest_of low (generated (writes_constructor members) (t.ClassOf at name parent members)) (functions parent ++ functions members) ascend)) (binds_good h (named name) own) (both (parent_good low h own) (members_good low h own)))

block_form : {all : List Mention} {tops : List Binding} (statements : Tree (t.list t.statement)) → IsGood all tops statements → (low : ℕ) (g : Setting) → Fits all tops low g → Good all tops low (gather walk (within Inner (declared statements) g) statements) (functions statements)
block_form statements statements_good low g fits = inside (λ part.
    let h : Setting = within Inner (declared statements) g in
    statements_good low h (entered low Inner (declared statements) g refl fits (λ one k binding e. part _ (statements_bound h statements one k binding e))))

for_form : {all : List Mention} {tops : List Binding} (head : Tree t.head) (test step : Tree (t.option t.expression)) (body : Tree t.statement) → IsGood all tops head → IsGood all tops test → IsGood all tops step → IsGood all tops body → IsGood all tops (t.For head test step body)
unfolding gather functions
for_form head test step body head_good test_good step_good body_good low g fits = inside (λ part.
    let h : Setting = within Inner (declared_by_head head) g in
    let inner_fits = entered low Inner (declared_by_head head) g refl fits (λ one k binding e. part _ (among_front (gather walk h head) (gather walk h test ++ (gather walk h step ++ gather walk (in_body_of_loop h) body)) _ (head_bound h head one k binding e))) in
    both (head_good low h inner_fits) (both (test_good low h inner_fits) (both (step_good low h inner_fits) (body_good low (in_body_of_loop h) inner_fits))))

try_node : {all : List Mention} {tops : List Binding} {low : ℕ} (g : Setting) (block : Tree (t.list t.statement)) (caught : Option Identifier) (catch finally : Tree (t.option (t.list t.statement))) → Fits all tops low g → Good all tops low (mentions_at g (t.Try block caught catch finally)) []
try_node g block caught catch t.absent fits = no_mentions
try_node g block caught catch (t.present finally) fits = both (one_good g Temporary fits tt) (one_good g Temporary fits tt)

finally_form : {all : List Mention} {tops : List Binding} (finally : Tree (t.option (t.list t.statement))) → IsGood all tops finally → (low : ℕ) (g : Setting) → Fits all tops low g → Good all tops low (gather walk (within Inner (declared_in finally) g) finally) (functions finally)
finally_form finally finally_good low g fits = inside (λ part.
    let h : Setting = within Inner (declared_in finally) g in
    finally_good low h (entered low Inner (declared_in finally) g refl fits (λ one k binding e. part _ (block_bound h finally one k binding e))))

catch_form : {all : List Mention} {tops : List Binding} (caught : Option Identifier) (catch : Tree (t.option (t.list t.statement))) → IsGood all tops catch → (low : ℕ) (g : Setting) → Fits all tops low g → Good all tops low (binds (within Inner (declared_by_catch caught catch) g) (named caught) ++ gather walk (within Inner (declared_by_catch caught catch) g) catch) (functions catch)
catch_form caught catch catch_good low g fits = inside (λ part.
    let h : Setting = within Inner (declared_by_catch caught catch) g in
    let inner_fits = entered low Inner (declared_by_catch caught catch) g refl fits (λ one k binding e. part _ (catch_bound h caught catch one k binding e)) in
    both (binds_good h (named caught) inner_fits) (catch_good low h inner_fits))

regroup : {all : List Mention} {tops : List Binding} {low : ℕ} {fs : List FunctionForm} (k l m : List Mention) → Good all tops low ((k ++ l) ++ m) fs → Good all tops low (k ++ (l ++ m)) fs
regroup {all} {tops} {low} {fs} k l m x = subst (λ list. Good all tops low list fs) (append_assoc k l m) x

try_form : {all : List Mention} {tops : List Binding} (block : Tree (t.list t.statement)) (caught : Option Identifier) (catch finally : Tree (t.option (t.list t.statement))) → IsGood all tops block → IsGood all tops catch → IsGood all tops finally → IsGood all tops (t.Try block caught catch finally)
unfolding gather functions
try_form block caught catch finally block_good catch_good finally_good low g fits =
    let h : Setting = within Inner (declared_by_catch caught catch) g in
    both (try_node g block caught catch finally fits) (both (block_form block block_good low g fits)
    (regroup (binds h (named caught)) (gather walk h catch) _ (both (catch_form caught catch catch_good low g fits) (finally_form finally finally_good low g fits))))

switch_form : {all : List Mention} {tops : List Binding} (value : Tree t.expression) (cases : Tree (t.list t.case)) → IsGood all tops value → IsGood all tops cases → IsGood all tops (t.Switch value cases)
unfolding gather functions
switch_form value cases value_good cases_good low g fits = inside (λ part.
    let h : Setting = in_cases (within Inner (declared_in_cases cases) g) in
    let inner_fits = entered low Inner (declared_in_cases cases) g refl fits (λ one k binding e. part _ (among_rest (mention g Temporary ++ gather walk g value) (gather walk h cases) _ (cases_bound h cases one k binding e))) in
    both (one_good g Temporary fits tt) (both (value_good low g fits) (cases_good low h inner_fits)))

good : {all : List Mention} {tops : List Binding} {s : t.Sort} → (tree : Tree s) → IsGood all tops tree
unfolding gather functions
good t.This low g fits = this_good g fits
good t.Null low g fits = no_mentions
good t.True low g fits = no_mentions
good t.False low g fits = no_mentions
good (t.Name name) low g fits = refers_good g name.name fits
good (t.Number value) low g fits = no_mentions
good (t.String text) low g fits = no_mentions
good (t.Template texts values) low g fits = good values low g fits
good (t.Array items) low g fits = good items low g fits
good (t.Object members) low g fits = good members low g fits
good (t.Function function) low g fits = expression_function function (good function) low g fits
good (t.Class class) low g fits = good class low g fits
good (t.Paren of) low g fits = good of low g fits
good (t.Dot of name) low g fits = good of low g fits
good (t.Index of key) low g fits = both (good of low g fits) (good key low g fits)
good (t.SuperDot at name) low g fits = no_mentions
good (t.SuperIndex at key) low g fits = good key low g fits
good (t.Call callee arguments) low g fits = both (good callee low g fits) (good arguments low g fits)
good (t.New callee arguments) low g fits = both (good callee low g fits) (good arguments low g fits)
good (t.SuperCall at arguments) low g fits = good arguments low g fits
good (t.Update at up prefix target) low g fits = good target low g fits
good (t.Unary operator of) low g fits = good of low g fits
good (t.Typeof of) low g fits = good of low g fits
good (t.Void of) low g fits = good of low g fits
good (t.Delete at of) low g fits = good of low g fits
good (t.Binary operator left right) low g fits = both (good left low g fits) (good right low g fits)
good (t.In left right) low g fits = both (good left low g fits) (good right low g fits)
good (t.InstanceOf left right) low g fits = both (good left low g fits) (good right low g fits)
good (t.And left right) low g fits = both (good left low g fits) (good right low g fits)
good (t.Or left right) low g fits = both (good left low g fits) (good right low g fits)
good (t.Nullish left right) low g fits = both (good left low g fits) (good right low g fits)
good (t.Conditional test one two) low g fits = both (good test low g fits) (both (good one low g fits) (good two low g fits))
good (t.Assign at target operator value) low g fits = both (good target low g fits) (good value low g fits)
good (t.Comma left right) low g fits = both (good left low g fits) (good right low g fits)
good (t.KeyWord name) low g fits = no_mentions
good (t.KeyString text) low g fits = no_mentions
good (t.KeyNumber value) low g fits = no_mentions
good (t.KeyComputed key) low g fits = good key low g fits
good (t.MemberOf at fixed kind key value t.absent) low g fits = both (member_node g at fixed kind key value t.absent fits) (both (good key low g fits) (before_none (good value low g fits)))
good (t.MemberOf at fixed kind key value (t.present function)) low g fits = member_form at fixed kind key value function (good key) (good value) (good function) low g fits
good (t.FunctionOf at name kind parameters body) low g fits = function_form at name kind parameters body (good body) low g fits
good (t.BodyStatements statements) low g fits = good statements low g fits
good (t.BodyExpression value) low g fits = good value low g fits
good (t.ClassOf at name parent members) low g fits = class_form at name parent members (good parent) (good members) low g fits
good t.HeadNothing low g fits = no_mentions
good (t.HeadValue value) low g fits = good value low g fits
good (t.HeadDeclare constant names) low g fits = good names low g fits
good (t.DeclaratorOf name value) low g fits = both (binds_good g (name ∷ []) fits) (good value low g fits)
good (t.CaseOf test body) low g fits = both (good test low g fits) (good body low g fits)
good t.Empty low g fits = no_mentions
good (t.Value value semi) low g fits = good value low g fits
good (t.Declare constant names semi) low g fits = good names low g fits
good (t.FunctionStatement function) low g fits = both (binds_good g (function_name function) fits) (good function low g fits)
good (t.ClassStatement class) low g fits = both (binds_good g (class_name class) fits) (good class low g fits)
good (t.Block statements) low g fits = block_form statements (good statements) low g fits
good (t.If test one other) low g fits = both (good test low g fits) (both (good one low g fits) (good other low g fits))
good (t.For head test step body) low g fits = for_form head test step body (good head) (good test) (good step) (good body) low g fits
good (t.While test body) low g fits = both (good test low g fits) (good body low (in_body_of_loop g) fits)
good (t.DoWhile body test semi) low g fits = both (good body low (in_body_of_loop g) fits) (good test low g fits)
good (t.Break at semi) low g fits = no_mentions
good (t.Continue at semi) low g fits = no_mentions
good (t.Return at value semi) low g fits = good value low g fits
good (t.Throw value semi) low g fits = good value low g fits
good (t.Try block caught catch finally) low g fits = try_form block caught catch finally (good block) (good catch) (good finally) low g fits
good (t.Switch value cases) low g fits = switch_form value cases (good value) (good cases) low g fits
good (t.DefaultFunction function) low g fits = good function low g fits
good (t.DefaultClass class) low g fits = good class low g fits
good (t.DefaultValue value) low g fits = good value low g fits
good (t.Import source names semi) low g fits = binds_good g (given_names names) fits
good (t.ExportFrom source names semi) low g fits = no_mentions
good (t.ExportNames names semi) low g fits = no_mentions
good (t.ExportDeclaration statement) low g fits = good statement low g fits
good (t.ExportDefault at value semi) low g fits = both (binds_good g (default_names at value) fits) (good value low g fits)
good (t.Plain statement) low g fits = good statement low g fits
good t.none low g fits = no_mentions
good (t.more tree trees) low g fits = both (good tree low g fits) (good trees low g fits)
good t.absent low g fits = no_mentions
good (t.present tree) low g fits = good tree low g fits

-- The module's top.

found_among : (name : Text) (sees : List Binding) (binding : Binding) → find_binding name sees ≡ Some binding → Among sees binding
found_among name [] binding e = absurd (cc e)
found_among name (one ∷ rest) binding e = by (same_text name one.name) e (found_among name rest binding)
  where
    by : (same : Bool) → elim same [ true ↦ Some one | false ↦ find_binding name rest ] ≡ Some binding → (find_binding name rest ≡ Some binding → Among rest binding) → Among (one ∷ rest) binding
    by true e more = inl (some_is e)
    by false e more = inr (more e)

bound_as : (role : Role) (lies : List Enclosing) (names : List Identifier) (binding : Binding) → Among (bind role lies names) binding → (role ≡ binding.role) × (lies ≡ binding.lies)
bound_as role lies [] binding h = absurd h
bound_as role lies (one ∷ names) binding (inl e) = (ap (λ b. b.role) e, ap (λ b. b.lies) e)
bound_as role lies (one ∷ names) binding (inr h) = bound_as role lies names binding h

top_role : (role : Role) (binding : Binding) → ((role_number role == 0) || (role_number role == 1)) ≡ true → role ≡ binding.role → is_top binding ≡ true
top_role role binding e same = subst (λ r. ((role_number r == 0) || (role_number r == 1)) ≡ true) same e

top_sees : (all : List Mention) (items : Tree (t.list t.item)) → Sees all (top_bindings items) [] (top_bindings items)
top_sees all items name binding e =
    let among : Among (top_bindings items) binding = found_among name (top_bindings items) binding e in
    elim (among_either (bind Top [] (top_declared items)) (bind Imported [] (imports items)) binding among) [
      | inl h ↦ let such = bound_as Top [] (top_declared items) binding h in at_top (top_role Top binding refl such.0) (sym such.1) among
      | inr h ↦ let such = bound_as Imported [] (imports items) binding h in at_top (top_role Imported binding refl such.0) (sym such.1) among
    ]

pub mentions_sound : (items : Tree (t.list t.item)) → FunctionsAscendFrom 0 (functions items) → (one : Mention) → Among (mentions items) one → Sound (mentions items) (top_bindings items) one
unfolding mentions
mentions_sound items ascend one h = (good items 0 (top_setting items) (tt, top_sees (mentions items) items)).each ascend (λ other k. k) one h
