-- One pass finds both counts of a tree, and how they grow by an element of a list.
use Rattle.std.proofs.Common.{◌≡◌, ℕ, zero, suc, ◌+◌, ◌<◌, max, min, Bool, true, false, length, List, [], ◌∷◌, ◌++◌, map, take, refl, ap, sym, ◌∙◌, subst, arith, slice_index_or, length-append, append-nil, add-one}
use Rattle.std.specs.Prelude.{◌||◌}
use Rattle.std.specs.List.{list_any}
use Rattle.es_model.specs.declared.measure.Counts.{Counts}
use Rattle.es_model.specs.declared.tree.Member.{Member}
use Rattle.es_model.specs.Tree as t
use Rattle.es_model.specs.Tree.{Tree, listed, tree_size}
use Rattle.es_model.specs.View.{member_of}
use Rattle.es_model.specs.Nesting.{nesting}
use Rattle.es_model.specs.Functions.{FunctionForm, functions, inner, generated, function_count, is_constructor, writes_constructor}
use Rattle.es_model.specs.Counted.{nothing_counted, beside, inside, and_function, with_constructor, counted}

abbrev pub cap : ℕ → ℕ
cap n = min n 4294967295

-- counts of a tree with this nesting and these functions
pub record Are (n : ℕ) (forms : List FunctionForm) (counts : Counts) : Type 0 where
  pub deep : counts.nesting ≡ cap n
  pub many : counts.functions ≡ cap (length forms)

nothing_is : Are 0 [] nothing_counted
nothing_is = record { deep = omega arith; many = omega arith }

beside_is : {n m : ℕ} {fs gs : List FunctionForm} {a b : Counts} → Are n fs a → Are m gs b → Are (max n m) (fs ++ gs) (beside a b)
unfolding beside
beside_is {fs = fs} {gs = gs} h g = record { deep = omega (arith, h.deep, g.deep); many = omega (arith, h.many, g.many, length-append fs gs) }

inside_is : {n : ℕ} {fs : List FunctionForm} {a : Counts} → Are n fs a → Are (suc n) fs (inside a)
unfolding inside
inside_is h = record { deep = omega (arith, h.deep); many = h.many }

and_function_is : {n : ℕ} {form : FunctionForm} {fs : List FunctionForm} {a : Counts} → Are n fs a → Are n (form ∷ fs) (and_function a)
unfolding and_function
and_function_is h = record { deep = h.deep; many = omega (arith, h.many) }

with_constructor_is : {n : ℕ} {fs : List FunctionForm} {a : Counts} (written : Bool) (class : Tree t.class) → Are n fs a → Are n (generated written class ++ fs) (with_constructor written a)
with_constructor_is true class h = h
with_constructor_is false class h = and_function_is h

same_counts : {n m : ℕ} {fs gs : List FunctionForm} {a : Counts} → n ≡ m → length fs ≡ length gs → Are n fs a → Are m gs a
same_counts e d h = record { deep = h.deep ∙ ap cap e; many = h.many ∙ ap cap d }

functions_inner : (f : Tree t.function) → length (functions f) ≡ suc (length (inner f))
unfolding functions inner
functions_inner (t.FunctionOf at name kind ps body) = refl

counted_is : {s : t.Sort} → (tree : Tree s) → Are (nesting tree) (functions tree) (counted tree)
unfolding nesting functions inner counted
counted_is t.This = inside_is nothing_is
counted_is t.Null = inside_is nothing_is
counted_is t.True = inside_is nothing_is
counted_is t.False = inside_is nothing_is
counted_is (t.Name _) = inside_is nothing_is
counted_is (t.Number _) = inside_is nothing_is
counted_is (t.String _) = inside_is nothing_is
counted_is (t.Template _ a1) = inside_is (counted_is a1)
counted_is (t.Array a0) = inside_is (counted_is a0)
counted_is (t.Object a0) = inside_is (counted_is a0)
counted_is (t.Function a0) = inside_is (counted_is a0)
counted_is (t.Class a0) = inside_is (counted_is a0)
counted_is (t.Paren a0) = inside_is (counted_is a0)
counted_is (t.Dot a0 _) = inside_is (counted_is a0)
counted_is (t.Index a0 a1) = inside_is (beside_is (counted_is a0) (counted_is a1))
counted_is (t.SuperDot _ _) = inside_is nothing_is
counted_is (t.SuperIndex _ a1) = inside_is (counted_is a1)
counted_is (t.Call a0 a1) = inside_is (beside_is (counted_is a0) (counted_is a1))
counted_is (t.New a0 a1) = inside_is (beside_is (counted_is a0) (counted_is a1))
counted_is (t.SuperCall _ a1) = inside_is (counted_is a1)
counted_is (t.Update _ _ _ a3) = inside_is (counted_is a3)
counted_is (t.Unary _ a1) = inside_is (counted_is a1)
counted_is (t.Typeof a0) = inside_is (counted_is a0)
counted_is (t.Void a0) = inside_is (counted_is a0)
counted_is (t.Delete _ a1) = inside_is (counted_is a1)
counted_is (t.Binary _ a1 a2) = inside_is (beside_is (counted_is a1) (counted_is a2))
counted_is (t.In a0 a1) = inside_is (beside_is (counted_is a0) (counted_is a1))
counted_is (t.InstanceOf a0 a1) = inside_is (beside_is (counted_is a0) (counted_is a1))
counted_is (t.And a0 a1) = inside_is (beside_is (counted_is a0) (counted_is a1))
counted_is (t.Or a0 a1) = inside_is (beside_is (counted_is a0) (counted_is a1))
counted_is (t.Nullish a0 a1) = inside_is (beside_is (counted_is a0) (counted_is a1))
counted_is (t.Conditional a0 a1 a2) = inside_is (beside_is (counted_is a0) (beside_is (counted_is a1) (counted_is a2)))
counted_is (t.Assign _ a1 _ a3) = inside_is (beside_is (counted_is a1) (counted_is a3))
counted_is (t.Comma a0 a1) = inside_is (beside_is (counted_is a0) (counted_is a1))
counted_is (t.KeyWord _) = nothing_is
counted_is (t.KeyString _) = nothing_is
counted_is (t.KeyNumber _) = nothing_is
counted_is (t.KeyComputed a0) = counted_is a0
counted_is (t.MemberOf _ _ _ a3 a4 t.absent) = same_counts refl (ap (λ fs. length (functions a3 ++ fs)) (append-nil (functions a4))) (beside_is (counted_is a3) (beside_is (counted_is a4) nothing_is))
counted_is (t.MemberOf _ _ _ a3 a4 (t.present a5)) = same_counts refl (omega (arith, functions_inner a5, length-append (functions a3) (functions a4 ++ functions a5), length-append (functions a4) (functions a5), length-append (functions a3) (functions a4 ++ inner a5), length-append (functions a4) (inner a5))) (beside_is (counted_is a3) (beside_is (counted_is a4) (counted_is a5)))
counted_is (t.FunctionOf _ _ _ _ a4) = and_function_is (inside_is (counted_is a4))
counted_is (t.BodyStatements a0) = counted_is a0
counted_is (t.BodyExpression a0) = counted_is a0
counted_is (t.ClassOf at name a2 a3) = with_constructor_is (writes_constructor a3) (t.ClassOf at name a2 a3) (inside_is (beside_is (counted_is a2) (counted_is a3)))
counted_is t.HeadNothing = nothing_is
counted_is (t.HeadValue a0) = counted_is a0
counted_is (t.HeadDeclare _ a1) = counted_is a1
counted_is (t.DeclaratorOf _ a1) = counted_is a1
counted_is (t.CaseOf a0 a1) = beside_is (counted_is a0) (counted_is a1)
counted_is t.Empty = inside_is nothing_is
counted_is (t.Value a0 _) = inside_is (counted_is a0)
counted_is (t.Declare _ a1 _) = inside_is (counted_is a1)
counted_is (t.FunctionStatement a0) = inside_is (counted_is a0)
counted_is (t.ClassStatement a0) = inside_is (counted_is a0)
counted_is (t.Block a0) = inside_is (counted_is a0)
counted_is (t.If a0 a1 a2) = inside_is (beside_is (counted_is a0) (beside_is (counted_is a1) (counted_is a2)))
counted_is (t.For a0 a1 a2 a3) = inside_is (beside_is (counted_is a0) (beside_is (counted_is a1) (beside_is (counted_is a2) (counted_is a3))))
counted_is (t.While a0 a1) = inside_is (beside_is (counted_is a0) (counted_is a1))
counted_is (t.DoWhile a0 a1 _) = inside_is (beside_is (counted_is a0) (counted_is a1))
counted_is (t.Break _ _) = inside_is nothing_is
counted_is (t.Continue _ _) = inside_is nothing_is
counted_is (t.Return _ a1 _) = inside_is (counted_is a1)
counted_is (t.Throw a0 _) = inside_is (counted_is a0)
counted_is (t.Try a0 _ a2 a3) = inside_is (beside_is (counted_is a0) (beside_is (counted_is a2) (counted_is a3)))
counted_is (t.Switch a0 a1) = inside_is (beside_is (counted_is a0) (counted_is a1))
counted_is (t.DefaultFunction a0) = counted_is a0
counted_is (t.DefaultClass a0) = counted_is a0
counted_is (t.DefaultValue a0) = counted_is a0
counted_is (t.Import _ _ _) = nothing_is
counted_is (t.ExportFrom _ _ _) = nothing_is
counted_is (t.ExportNames _ _) = nothing_is
counted_is (t.ExportDeclaration a0) = counted_is a0
counted_is (t.ExportDefault _ a1 _) = counted_is a1
counted_is (t.Plain a0) = counted_is a0
counted_is t.none = nothing_is
counted_is (t.more a0 a1) = beside_is (counted_is a0) (counted_is a1)
counted_is t.absent = nothing_is
counted_is (t.present a0) = counted_is a0

pub counted_nesting : {s : t.Sort} → (tree : Tree s) → (counted tree).nesting ≡ min (nesting tree) 4294967295
counted_nesting tree = (counted_is tree).deep

pub counted_functions : (items : Tree (t.list t.item)) → (and_function (counted items)).functions ≡ min (function_count items) 4294967295
unfolding and_function
counted_functions items = omega (arith, (counted_is items).many)

-- the counts of a list's front, longer by the element x

counts_same : (a b : Counts) → a.nesting ≡ b.nesting → a.functions ≡ b.functions → a ≡ b
counts_same a b e d = λ i. record { nesting = e i; functions = d i }

beside_nothing : {s : t.Sort} → (tree : Tree s) → beside (counted tree) nothing_counted ≡ counted tree
unfolding beside
beside_nothing tree = counts_same (beside (counted tree) nothing_counted) (counted tree) (omega arith) (omega (arith, (counted_is tree).many))

beside_joined : (a b c : Counts) → beside a (beside b c) ≡ beside (beside a b) c
unfolding beside
beside_joined a b c = counts_same (beside a (beside b c)) (beside (beside a b) c) (omega arith) (omega arith)

nothing_beside : {s : t.Sort} → (tree : Tree s) → beside nothing_counted (counted tree) ≡ counted tree
unfolding beside
nothing_beside tree = counts_same (beside nothing_counted (counted tree)) (counted tree) (omega arith) (omega (arith, (counted_is tree).many))

counted_by : {A : Type 0} {s : t.Sort} → (f : A → Tree s) (xs : List A) (i : ℕ) (d : A) → i < length xs → counted (listed (map f (take (suc i) xs))) ≡ beside (counted (listed (map f (take i xs)))) (counted (f (slice_index_or xs i d)))
unfolding counted
counted_by f [] i d lt = absurd (omega arith)
counted_by f (x ∷ xs) zero d lt = beside_nothing (f x) ∙ sym (nothing_beside (f x))
counted_by f (x ∷ xs) (suc i) d lt = ap (λ c. beside (counted (f x)) c) (counted_by f xs i d (omega arith)) ∙ beside_joined (counted (f x)) (counted (listed (map f (take i xs)))) (counted (f (slice_index_or xs i d)))

map_same : {A : Type 0} → (xs : List A) → map (λ x. x) xs ≡ xs
map_same [] = refl
map_same (x ∷ xs) = ap (λ l. x ∷ l) (map_same xs)

pub counted_mapped : {A : Type 0} {s : t.Sort} → (f : A → Tree s) (xs : List A) (i : ℕ) (x : A) → x ≡ slice_index_or xs i x → i < length xs → counted (listed (map f (take (i + 1) xs))) ≡ beside (counted (listed (map f (take i xs)))) (counted (f x))
counted_mapped f xs i x e lt = rw add-one (counted_by f xs i x lt ∙ ap (λ y. beside (counted (listed (map f (take i xs)))) (counted (f y))) (sym e))

pub counted_taken : {s : t.Sort} → (xs : List (Tree s)) (i : ℕ) (x : Tree s) → x ≡ slice_index_or xs i x → i < length xs → counted (listed (take (i + 1) xs)) ≡ beside (counted (listed (take i xs))) (counted x)
counted_taken xs i x e lt = subst (λ l. counted (listed l) ≡ beside (counted (listed (take i xs))) (counted x)) (map_same (take (i + 1) xs)) (subst (λ l. counted (listed (map (λ y. y) (take (i + 1) xs))) ≡ beside (counted (listed l)) (counted x)) (map_same (take i xs)) (counted_mapped (λ y. y) xs i x e lt))

-- an element is smaller than its list
pub mapped_smaller : {A : Type 0} {s : t.Sort} → (f : A → Tree s) (xs : List A) (i : ℕ) (d : A) → i < length xs → tree_size (f (slice_index_or xs i d)) < tree_size (listed (map f xs))
mapped_smaller f [] i d lt = absurd (omega arith)
mapped_smaller f (x ∷ xs) zero d lt = omega arith
mapped_smaller f (x ∷ xs) (suc i) d lt = omega (arith, mapped_smaller f xs i d (omega arith))

pub element_smaller : {s : t.Sort} → (xs : List (Tree s)) (i : ℕ) (d : Tree s) → i < length xs → tree_size (slice_index_or xs i d) < tree_size (listed xs)
element_smaller xs i d lt = subst (λ l. tree_size (slice_index_or xs i d) < tree_size (listed l)) (map_same xs) (mapped_smaller (λ y. y) xs i d lt)

-- a class writes a constructor, over the list of its members
pub writes_constructor_listed : (xs : List Member) → writes_constructor (listed (map member_of xs)) ≡ list_any (λ m. is_constructor (member_of m)) xs
unfolding writes_constructor
writes_constructor_listed [] = refl
writes_constructor_listed (x ∷ xs) = ap (λ b. is_constructor (member_of x) || b) (writes_constructor_listed xs)
