-- Evaluation of trees (ECMA-262, sections 13 to 16), one case for each form, over the operations of es_ops.
use Rattle.std.specs.Prelude.{ℕ, zero, suc, Bool, true, false, cond, ◌&&◌, List, [], ◌∷◌, map, pos, Option, Some, None, codes, slice_get}
use Rattle.js_value.specs.Value.{Value, Undefined, Null, Boolean, Number, String, Object}
use Rattle.js_value.specs.NumberText.{text_of_number}
use Rattle.js_value.specs.Store.{Class, ScriptFunction, BuiltInFunction, ResolveFunction, RejectFunction, object_in}
use Rattle.es_model.specs.declared.kinds.FunctionKind.{FunctionKind}
use Rattle.es_model.specs.declared.kinds.FunctionKind.TheVariants as f
use Rattle.es_model.specs.declared.kinds.MemberKind.{MemberKind}
use Rattle.es_model.specs.declared.names.Identifier.{Identifier}
use Rattle.es_model.specs.Tree as t
use Rattle.es_model.specs.Tree.{Tree, Text}
use Rattle.es_model.specs.Functions.{FunctionForm, Written, Generated, is_constructor}
use Rattle.es_model.specs.Scopes.{Inner, Own as OwnName, default_names}
use Rattle.es_model.specs.FreeNames.{Held, in_arrow, receiver}
use Rattle.es_ops.specs.Intrinsics.{ObjectPrototype}
use Rattle.es_ops.specs.State.{State}
use Rattle.es_ops.specs.Ledger.{Budget}
use Rattle.es_ops.specs.Messages.{NotAFunction}
use Rattle.es_ops.specs.Act.{Act, Give, Call, Calls, Ran, Halts, run}
use Rattle.es_ops.specs.Errors.{raise}
use Rattle.es_ops.specs.Conversions.{to_boolean}
use Rattle.es_ops.specs.Equality.{is_strictly_equal}
use Rattle.es_ops.specs.References.{get_by_value, put_by_value, delete_by_value, key_by_value, super_get, super_set}
use Rattle.es_ops.specs.Operators as o
use Rattle.es_ops.specs.Calling.{by_rules, construct, super_call, create_from_constructor, base_result, derived_result}
use Rattle.es_ops.specs.Making.{make_object, make_array, append, define_member, name_function}
use Rattle.es_rows.specs.BuiltIns.{row}
use Rattle.es_eval.specs.ModuleTables.{FunctionRow, ModuleTable, kind_of_class}
use Rattle.es_eval.specs.Completions.{Here, Return, Break, Continue, Throw, Stopped, Normal, Doing, follow, ◌>>=◌, ◌>>◌, pure, ends, done, acts, take_unit, body_value, as_ran, after_turn, unbroken, caught, finally_done}
use Rattle.es_eval.specs.Environments.{Environment, Bound, place_of_name, read_name, write_name, initialise_name, raises, no_calls, nothing_given, is_missing, this_name, bind, bind_name, bind_all, bind_functions, Declaration, Hoisted, lexical, lexical_in, hoisted_in, lexical_in_cases, hoisted_in_cases, copy_all, outer_names}
use Rattle.es_eval.specs.Operands.{binary_operator, unary_operator, step_operator, Reference, NameReference, PropertyReference, SuperReference, NoReference, receiver_of, MembersOf, OfObject, object_of_member, is_enumerable, member_sort, MemberKey, written_key, name_by_key, is_anonymous, name_of_target, name_or, new_function, Constructor, constructor_by, made_class, members_of_class, object_number, own_this, bind_own_this}

-- ---- what runs with one unit of the meter less: the body of a call, and the next turn of a loop

pub record Smaller : Type 0 where
  pub bodies : Calls
  pub turns : (loop : Tree t.statement) → (copied : List Text) → Environment → Doing (Unit {0})

-- ---- meanings, by the sort of a form. The name of an expression is what an anonymous function there is named (8.4.5).

-- the lists of a switch: the number of the one that is chosen, and what runs from a number on
pub record Cases : Type 0 where
  pub chosen : Value → (number : ℕ) → (otherwise : Option ℕ) → Environment → Doing (Option ℕ)
  pub from : ℕ → Environment → Doing (Unit {0})

-- a loop's head leaves an environment, and the names that each turn has a copy of
pub record Headed : Type 0 where
  pub env : Environment
  pub copied : List Text

abbrev pub Meaning : t.Sort → Type 0
Meaning t.expression = (name : Text) → Environment → Doing Value
Meaning (t.option t.expression) = (name : Text) → Environment → Doing (Option Value)
Meaning (t.list t.expression) = Environment → Doing (List Value)
Meaning t.key = (object : ℕ) → Environment → Doing MemberKey
Meaning t.member = MembersOf → Environment → Doing (Unit {0})
Meaning (t.list t.member) = MembersOf → Environment → Doing (Unit {0})
Meaning t.class = (name : Text) → Environment → Doing Value
Meaning t.body = Environment → Doing (Unit {0})
Meaning t.head = Environment → Doing Headed
Meaning t.declarator = Environment → Doing (Unit {0})
Meaning (t.list t.declarator) = Environment → Doing (Unit {0})
Meaning (t.list t.case) = Cases
Meaning t.statement = Environment → Doing (Unit {0})
Meaning (t.list t.statement) = Environment → Doing (Unit {0})
Meaning (t.option t.statement) = Environment → Doing (Unit {0})
Meaning (t.option (t.list t.statement)) = Environment → Doing (Unit {0})
Meaning t.default = (at : ℕ) → Environment → Doing (Unit {0})
Meaning t.item = Environment → Doing (Unit {0})
Meaning (t.list t.item) = Environment → Doing (Unit {0})
Meaning _ = Unit {0}

-- ---- small steps

-- the functions of a list of statements, made and put into their bindings
abbrev pub put_functions : List Hoisted → Environment → Doing (Unit {0})
put_functions [] env = done
put_functions (one ∷ rest) env = new_function one.function [] None env >>= (λ f. initialise_name env one.name.name f) >> put_functions rest env

abbrev pub entered : List Declaration → List Hoisted → Environment → Doing Environment
entered lets functions env =
    bind_all lets env >>= (λ with_lets. bind_functions functions with_lets >>= (λ inner. put_functions functions inner >> pure inner))

-- what an operand's truth chooses
abbrev pub by_truth : {A : Type 0} → Value → (consequent alternative : Doing A) → Doing A
by_truth v consequent alternative = cond (to_boolean v) consequent alternative

-- a let without an initialiser is undefined, and so is a return without a value
abbrev pub undefined_or : Option Value → Value
undefined_or None = Undefined
undefined_or (Some v) = v

-- an absent test holds
abbrev pub test_holds : Option Value → Bool
test_holds None = true
test_holds (Some v) = to_boolean v

-- the own name of a function expression or a class (15.2.5, 15.7.14)
abbrev pub bind_own_name : Option Identifier → Environment → Doing Environment
bind_own_name None env = pure env
bind_own_name (Some name) env = bind_name OwnName true name env

abbrev pub initialise_own_name : Option Identifier → Environment → Value → Doing Value
initialise_own_name None env v = pure v
initialise_own_name (Some name) env v = initialise_name env name.name v >> pure v

-- the catch name (14.15.2): made and initialised
abbrev pub bind_caught : Option Identifier → Value → Environment → Doing Environment
bind_caught None v env = pure env
bind_caught (Some name) v env = bind_name Inner false name env >>= (λ inner. initialise_name inner name.name v >> pure inner)

-- a template's texts and values, in turns
abbrev pub parts : List Text → List Value → List Value
parts [] vs = vs
parts (text ∷ texts) [] = String text ∷ parts texts []
parts (text ∷ texts) (v ∷ vs) = String text ∷ v ∷ parts texts vs

abbrev pub template : List Text → List Value → Doing Value
template (text ∷ []) [] = pure (String text)
template texts vs = acts no_calls (o.join (parts texts vs) Give)

-- a parameter is a variable that has its argument
abbrev pub bind_parameter : Identifier → Value → Environment → Doing Environment
bind_parameter name v env = bind_name Inner false name env >>= (λ inner. initialise_name inner name.name v >> pure inner)

abbrev pub is_nullish : Value → Bool
is_nullish Undefined = true
is_nullish Null = true
is_nullish v = false

abbrev pub chosen_of : Cases → Value → (number : ℕ) → (otherwise : Option ℕ) → Environment → Doing (Option ℕ)
chosen_of cases v number otherwise env = cases.chosen v number otherwise env

abbrev pub from_of : Cases → ℕ → Environment → Doing (Unit {0})
from_of cases number env = cases.from number env

-- a form of a sort that has no meaning of its own
abbrev pub no_meaning : (s : t.Sort) → Meaning s
no_meaning t.expression = λ name env. pure Undefined
no_meaning (t.option t.expression) = λ name env. pure None
no_meaning (t.list t.expression) = λ env. pure []
no_meaning t.key = λ object env. pure (written_key [])
no_meaning t.member = λ of env. done
no_meaning (t.list t.member) = λ of env. done
no_meaning t.class = λ name env. pure Undefined
no_meaning t.body = λ env. done
no_meaning t.head = λ env. pure (record { env = env; copied = [] })
no_meaning t.declarator = λ env. done
no_meaning (t.list t.declarator) = λ env. done
no_meaning (t.list t.case) = record { chosen = λ v number otherwise env. pure otherwise; from = λ number env. done }
no_meaning t.statement = λ env. done
no_meaning (t.list t.statement) = λ env. done
no_meaning (t.option t.statement) = λ env. done
no_meaning (t.option (t.list t.statement)) = λ env. done
no_meaning t.default = λ at env. done
no_meaning t.item = λ env. done
no_meaning (t.list t.item) = λ env. done
no_meaning _ = tt

-- a list of statements, with what stands at its entry
abbrev pub in_block : Tree (t.list t.statement) → (Environment → Doing (Unit {0})) → Environment → Doing (Unit {0})
in_block list means env = entered (lexical_in list) (hoisted_in list) env >>= means

abbrev pub catching : Option Identifier → Tree (t.list t.statement) → (Environment → Doing (Unit {0})) → Environment → Value → Doing (Unit {0})
catching name list means env v = bind_caught name v env >>= in_block list means

-- a turn of a `for` (14.7.4.3), with a fresh copy of its bindings before its step
abbrev pub for_turn : List Text → (test step : Text → Environment → Doing (Option Value)) → (body again : Environment → Doing (Unit {0})) → Environment → Doing (Unit {0})
for_turn copied test step body again env =
    take_unit >> (test [] env >>= (λ v. cond (test_holds v) (λ h. after_turn (body env h) (copy_all copied env >>= (λ inner. step [] inner >> again inner))) done))

abbrev pub copied_names : (const : Bool) → Tree (t.list t.declarator) → List Text
copied_names true declarators = []
copied_names false declarators = map (λ one. one.name.name) (lexical false declarators)

-- the list that a switch begins with, where there is one
abbrev pub from_chosen : Cases → Option ℕ → Environment → Doing (Unit {0})
from_chosen cases None env = done
from_chosen cases (Some number) env = cases.from number env

abbrev pub switched : Cases → Value → Environment → Doing (Unit {0})
switched cases v env = cases.chosen v 0 None env >>= (λ number. from_chosen cases number env)

abbrev pub from_list : ℕ → (first rest : Doing (Unit {0})) → (ℕ → Doing (Unit {0})) → Doing (Unit {0})
from_list zero first rest skipped = first >> rest
from_list (suc n) first rest skipped = skipped n

-- the name of a class statement is bound where the class is made
abbrev pub own_name_of : Tree t.class → Option Identifier
own_name_of (t.ClassOf at own parent members) = own

abbrev pub initialise_class : Option Identifier → Environment → Value → Doing (Unit {0})
initialise_class None env v = done
initialise_class (Some name) env v = initialise_name env name.name v

abbrev pub initialise_all : List Identifier → Environment → Value → Doing (Unit {0})
initialise_all [] env v = done
initialise_all (name ∷ names) env v = initialise_name env name.name v >> initialise_all names env v

module _ (smaller : Smaller) where
  -- a way of calling: each body runs with one unit less
  abbrev pub calls : Calls
  calls = by_rules smaller.bodies

  abbrev pub does_act : Act → Doing Value
  does_act act = acts calls act

  -- ---- GetValue and PutValue (6.2.5.5, 6.2.5.6)

  abbrev pub value_of : Environment → Reference → Doing Value
  value_of env (NameReference name) = read_name env name
  value_of env (PropertyReference base key) = does_act (get_by_value base key Give)
  value_of env (SuperReference this key computed) = does_act (super_get env.home this key Give)
  value_of env (NoReference v) = pure v

  abbrev pub put_value : Environment → Reference → Value → Doing Value
  put_value env (NameReference name) v = write_name env name v >> pure v
  put_value env (PropertyReference base key) v = does_act (put_by_value base key v (Give v))
  put_value env (SuperReference this key computed) v = does_act (super_set env.home this key v (Give v))
  put_value env (NoReference old) v = pure v

  -- what a member refers to (13.3.2)
  abbrev pub dot_of : (object : Doing Value) → (key : Text) → Doing Reference
  dot_of object key = object >>= (λ base. pure (PropertyReference base (String key)))

  abbrev pub index_of : (object key : Doing Value) → Doing Reference
  index_of object key = object >>= (λ base. key >>= (λ k. pure (PropertyReference base k)))

  -- a reference that is read and then written: its base is tested and its key converted once
  abbrev pub prepared : Reference → Doing Reference
  prepared (PropertyReference base key) = does_act (key_by_value base key Give) >>= (λ name. pure (PropertyReference base name))
  prepared (SuperReference this key true) = does_act (key_by_value this key Give) >>= (λ name. pure (SuperReference this name true))
  prepared reference = pure reference

  abbrev pub deleted : Reference → Doing Value
  deleted (PropertyReference base key) = does_act (delete_by_value base key (Give (Boolean true)))
  deleted _ = pure (Boolean true)

  abbrev pub type_of_reference : Environment → Reference → Doing Value
  type_of_reference env (NameReference name) =
      cond (is_missing (place_of_name env name) name) (pure (String (codes "undefined")))
      (read_name env name >>= (λ v. does_act (o.type_of v Give)))
  type_of_reference env reference = value_of env reference >>= (λ v. does_act (o.type_of v Give))

  -- ---- `++` and `--` (13.4)

  abbrev pub updated : Environment → (up prefix : Bool) → Reference → Doing Value
  updated env up prefix reference =
      value_of env reference >>= (λ v.
      does_act (o.unary o.Plus v Give) >>= (λ old.
      does_act (o.binary (step_operator up) old (Number (pos 1)) Give) >>= (λ new.
      put_value env reference new >> pure (cond prefix new old))))

  abbrev pub call_with : Environment → Reference → Value → List Value → Doing Value
  call_with env reference f vs = does_act (Call f (receiver_of reference) vs None Give)

  -- a member is named by its key where that is computed, and then defined
  abbrev pub named_act : Bool → MemberKind → (key v : Value) → Act → Act
  named_act true kind key v k = name_function (member_sort kind) key v k
  named_act false kind key v k = k

  abbrev pub defined : MembersOf → (static : Bool) → MemberKind → MemberKey → (names : Bool) → Value → Doing (Unit {0})
  defined of static kind k names v =
      nothing_given (does_act (named_act (names && k.computed) kind k.key v
      (define_member (member_sort kind) (is_enumerable of) (Object (object_of_member of static)) k.key v (Give Undefined))))

  -- `super(..)` (13.3.7.1)
  abbrev pub called_super : Environment → List Value → Doing Value
  called_super env vs = does_act (super_call env.function env.target vs Give) >>= bind_own_this env

  abbrev pub this_of : Environment → Doing Value
  this_of env = cond (in_arrow env.row.round) (read_name env this_name) own_this

  -- what a `super` member refers to (13.3.7)
  abbrev pub super_dot_of : Environment → (key : Text) → Doing Reference
  super_dot_of env key = this_of env >>= (λ this. pure (SuperReference this (String key) false))

  abbrev pub super_index_of : Environment → (key : Doing Value) → Doing Reference
  super_index_of env key = this_of env >>= (λ this. key >>= (λ k. pure (SuperReference this k true)))

  abbrev pub new_class : Constructor → (name : Text) → (parent : Option Value) → Environment → Doing Value
  new_class c name parent env = made_class calls c.row name c.parameters parent env

  unfoldable mutual
    -- the meaning of a form
    pub meaning : {s : t.Sort} → Tree s → Meaning s
    -- ---- primary expressions (13.2)
    meaning t.This = λ name env. this_of env
    meaning t.Null = λ name env. pure Null
    meaning t.True = λ name env. pure (Boolean true)
    meaning t.False = λ name env. pure (Boolean false)
    meaning (t.Name identifier) = λ name env. read_name env identifier.name
    meaning (t.Number n) = λ name env. pure (Number n)
    meaning (t.String text) = λ name env. pure (String text)
    meaning (t.Template texts values) = λ name env. substitutions values env >>= template texts
    meaning (t.Array elements) = λ name env. does_act (make_array (λ n. Give (Object n))) >>= (λ array. elements_of elements array env)
    meaning (t.Object members) = λ name env. does_act (make_object (λ n. Give (Object n))) >>= (λ o. meaning members (OfObject (object_number o)) env >> pure o)
    meaning (t.Function (t.FunctionOf at own kind parameters body)) = λ name env.
        bind_own_name own env >>= (λ inner. new_function (t.FunctionOf at own kind parameters body) name None inner >>= initialise_own_name own inner)
    meaning (t.Class class) = λ name env. meaning class name env
    meaning (t.Paren form) = λ name env. meaning form name env
    -- ---- members, calls and `new` (13.3)
    meaning (t.Dot object key) = λ name env. dot_of (meaning object [] env) key >>= value_of env
    meaning (t.Index object key) = λ name env. index_of (meaning object [] env) (meaning key [] env) >>= value_of env
    meaning (t.SuperDot at key) = λ name env. super_dot_of env key >>= value_of env
    meaning (t.SuperIndex at key) = λ name env. super_index_of env (meaning key [] env) >>= value_of env
    meaning (t.Call callee arguments) = λ name env.
        reference callee (meaning callee []) env >>= (λ r. value_of env r >>= (λ f. meaning arguments env >>= call_with env r f))
    meaning (t.New callee t.absent) = λ name env. meaning callee [] env >>= (λ f. does_act (construct f [] f Give))
    meaning (t.New callee (t.present arguments)) = λ name env.
        meaning callee [] env >>= (λ f. meaning arguments env >>= (λ vs. does_act (construct f vs f Give)))
    meaning (t.SuperCall at arguments) = λ name env. meaning arguments env >>= called_super env
    -- ---- operators (13.4 to 13.16)
    meaning (t.Update at up prefix target) = λ name env. reference target (meaning target []) env >>= (λ r. prepared r >>= updated env up prefix)
    meaning (t.Unary operator form) = λ name env. meaning form [] env >>= (λ v. does_act (o.unary (unary_operator operator) v Give))
    meaning (t.Typeof form) = λ name env. reference form (meaning form []) env >>= type_of_reference env
    meaning (t.Void form) = λ name env. meaning form [] env >> pure Undefined
    meaning (t.Delete at form) = λ name env. reference form (meaning form []) env >>= deleted
    meaning (t.Binary operator a b) = λ name env.
        meaning a [] env >>= (λ v. meaning b [] env >>= (λ w. does_act (o.binary (binary_operator operator) v w Give)))
    meaning (t.In a b) = λ name env. meaning a [] env >>= (λ v. meaning b [] env >>= (λ w. does_act (o.has_property_in v w Give)))
    meaning (t.InstanceOf a b) = λ name env. meaning a [] env >>= (λ v. meaning b [] env >>= (λ w. does_act (o.instance_of v w Give)))
    meaning (t.And a b) = λ name env. meaning a [] env >>= (λ v. by_truth v (meaning b [] env) (pure v))
    meaning (t.Or a b) = λ name env. meaning a [] env >>= (λ v. by_truth v (pure v) (meaning b [] env))
    meaning (t.Nullish a b) = λ name env. meaning a [] env >>= (λ v. cond (is_nullish v) (meaning b [] env) (pure v))
    meaning (t.Conditional test a b) = λ name env. meaning test [] env >>= (λ v. by_truth v (meaning a [] env) (meaning b [] env))
    meaning (t.Assign at target None value) = λ name env.
        reference target (meaning target []) env >>= (λ r. meaning value (name_of_target target) env >>= put_value env r)
    meaning (t.Assign at target (Some operator) value) = λ name env.
        reference target (meaning target []) env >>= (λ r. prepared r >>= (λ p. value_of env p >>= (λ old. meaning value [] env >>= (λ v.
        does_act (o.binary (binary_operator operator) old v Give) >>= put_value env p))))
    meaning (t.Comma a b) = λ name env. meaning a [] env >> meaning b [] env
    meaning (t.none {s = t.expression}) = λ env. pure []
    meaning (t.more {s = t.expression} form forms) = λ env. meaning form [] env >>= (λ v. meaning forms env >>= (λ vs. pure (v ∷ vs)))
    meaning (t.absent {s = t.expression}) = λ name env. pure None
    meaning (t.present {s = t.expression} form) = λ name env. meaning form name env >>= (λ v. pure (Some v))
    -- ---- members (13.2.5.5, 15.4.5) and classes (15.7.14)
    meaning (t.KeyWord text) = λ object env. pure (written_key text)
    meaning (t.KeyString text) = λ object env. pure (written_key text)
    meaning (t.KeyNumber n) = λ object env. pure (written_key (text_of_number n))
    meaning (t.KeyComputed form) = λ object env.
        meaning form [] env >>= (λ v. does_act (key_by_value (Object object) v Give) >>= (λ key. pure (record { key = key; computed = true })))
    meaning (t.MemberOf at fixed kind (t.KeyWord name) t.absent t.absent) = λ of env. read_name env name >>= defined of fixed kind (written_key name) false
    meaning (t.MemberOf at fixed kind key (t.present form) t.absent) = λ of env.
        meaning key (object_of_member of fixed) env >>= (λ k.
        meaning form (name_by_key (member_sort kind) k) env >>= defined of fixed kind k (is_anonymous form))
    meaning (t.MemberOf at fixed kind key value (t.present function)) = λ of env.
        cond (is_constructor (t.MemberOf at fixed kind key value (t.present function))) done
        (meaning key (object_of_member of fixed) env >>= (λ k.
        new_function function (name_by_key (member_sort kind) k) (Some (object_of_member of fixed)) env >>= defined of fixed kind k true))
    meaning (t.none {s = t.member}) = λ of env. done
    meaning (t.more {s = t.member} member members) = λ of env. meaning member of env >> meaning members of env
    meaning (t.ClassOf at own parent members) = λ name env.
        bind_own_name own env >>= (λ inner.
        meaning parent [] inner >>= (λ p.
        new_class (constructor_by inner at members) (name_or own name) p inner >>= (λ constructor.
        members_of_class constructor >>= (λ of. meaning members of inner) >> initialise_own_name own inner constructor)))
    -- ---- bodies (15.2.3, 15.3.4)
    meaning (t.BodyStatements list) = λ env. in_block list (meaning list) env
    meaning (t.BodyExpression form) = λ env. meaning form [] env >>= (λ v. ends (Return v))
    -- ---- statements (14)
    meaning t.Empty = λ env. done
    meaning (t.Value form semi) = λ env. meaning form [] env >> done
    meaning (t.Declare const declarators semi) = λ env. meaning declarators env
    meaning (t.DeclaratorOf name value) = λ env. meaning value name.name env >>= (λ v. initialise_name env name.name (undefined_or v))
    meaning (t.none {s = t.declarator}) = λ env. done
    meaning (t.more {s = t.declarator} one rest) = λ env. meaning one env >> meaning rest env
    meaning (t.FunctionStatement function) = λ env. done
    meaning (t.ClassStatement class) = λ env. meaning class [] env >>= initialise_class (own_name_of class) env
    meaning (t.Block list) = λ env. in_block list (meaning list) env
    meaning (t.If test consequent alternative) = λ env. meaning test [] env >>= (λ v. by_truth v (meaning consequent env) (meaning alternative env))
    meaning (t.For head test step body) = λ env.
        meaning head env >>= (λ headed. copy_all headed.copied headed.env >>=
        for_turn headed.copied (meaning test) (meaning step) (meaning body) (smaller.turns (t.For head test step body) headed.copied))
    meaning t.HeadNothing = λ env. pure (record { env = env; copied = [] })
    meaning (t.HeadValue form) = λ env. meaning form [] env >> pure (record { env = env; copied = [] })
    meaning (t.HeadDeclare const declarators) = λ env.
        bind_all (lexical const declarators) env >>= (λ inner. meaning declarators inner >> pure (record { env = inner; copied = copied_names const declarators }))
    meaning (t.While test body) = λ env.
        take_unit >> (meaning test [] env >>= (λ v. by_truth v (λ h. after_turn (meaning body env h) (smaller.turns (t.While test body) [] env)) done))
    meaning (t.DoWhile body test semi) = λ env.
        take_unit >> (λ h. after_turn (meaning body env h) (meaning test [] env >>= (λ v. by_truth v (smaller.turns (t.DoWhile body test semi) [] env) done)))
    meaning (t.Break at semi) = λ env. ends Break
    meaning (t.Continue at semi) = λ env. ends Continue
    meaning (t.Return at value semi) = λ env. meaning value [] env >>= (λ v. ends (Return (undefined_or v)))
    meaning (t.Throw form semi) = λ env. meaning form [] env >>= (λ v. ends (Throw v))
    meaning (t.Try block caught_name (t.present catch) t.absent) = λ env h. caught (in_block block (meaning block) env h) (catching caught_name catch (meaning catch) env)
    meaning (t.Try block caught_name t.absent (t.present finally)) = λ env h. finally_done (in_block block (meaning block) env h) (in_block finally (meaning finally) env)
    meaning (t.Try block caught_name (t.present catch) (t.present finally)) = λ env h.
        finally_done (caught (in_block block (meaning block) env h) (catching caught_name catch (meaning catch) env)) (in_block finally (meaning finally) env)
    meaning (t.Try block caught_name t.absent t.absent) = λ env. in_block block (meaning block) env
    meaning (t.Switch form cases) = λ env.
        meaning form [] env >>= (λ v h. unbroken ((entered (lexical_in_cases cases) (hoisted_in_cases cases) env >>= switched (meaning cases) v) h))
    meaning (t.none {s = t.case}) = record { chosen = λ v number otherwise env. pure otherwise; from = λ number env. done }
    meaning (t.more {s = t.case} (t.CaseOf t.absent list) cases) = record {
      chosen = λ v number otherwise env. chosen_of (meaning cases) v (suc number) (Some number) env;
      from = λ number env. from_list number (meaning list env) (from_of (meaning cases) 0 env) (λ n. from_of (meaning cases) n env);
    }
    meaning (t.more {s = t.case} (t.CaseOf (t.present test) list) cases) = record {
      chosen = λ v number otherwise env.
          meaning test [] env >>= (λ w. cond (is_strictly_equal v w) (pure (Some number)) (chosen_of (meaning cases) v (suc number) otherwise env));
      from = λ number env. from_list number (meaning list env) (from_of (meaning cases) 0 env) (λ n. from_of (meaning cases) n env);
    }
    meaning (t.none {s = t.statement}) = λ env. done
    meaning (t.more {s = t.statement} one rest) = λ env. meaning one env >> meaning rest env
    meaning (t.absent {s = t.statement}) = λ env. done
    meaning (t.present {s = t.statement} form) = λ env. meaning form env
    meaning (t.absent {s = t.list t.statement}) = λ env. done
    meaning (t.present {s = t.list t.statement} list) = λ env. meaning list env
    -- ---- modules (16.2): imports and lists of exports have no evaluation of their own
    meaning (t.Import source pairs semi) = λ env. done
    meaning (t.ExportFrom source pairs semi) = λ env. done
    meaning (t.ExportNames pairs semi) = λ env. done
    meaning (t.ExportDeclaration statement) = λ env. meaning statement env
    meaning (t.ExportDefault at value semi) = λ env. meaning value at env
    meaning (t.DefaultFunction function) = λ at env. done
    meaning (t.DefaultClass class) = λ at env. meaning class (codes "default") env >>= initialise_all (default_names at (t.DefaultClass class)) env
    meaning (t.DefaultValue form) = λ at env. meaning form (codes "default") env >>= initialise_name env (codes "default")
    meaning (t.Plain statement) = λ env. meaning statement env
    meaning (t.none {s = t.item}) = λ env. done
    meaning (t.more {s = t.item} one rest) = λ env. meaning one env >> meaning rest env
    meaning {s} _ = no_meaning s

    -- what a target, a callee or an operand of `delete` and `typeof` refers to, through parentheses (13.3, 13.15)
    -- (`value` is the meaning of the same form, where it is none of these)
    pub reference : Tree t.expression → (value : Environment → Doing Value) → Environment → Doing Reference
    reference (t.Paren form) value env = reference form (meaning form []) env
    reference (t.Name identifier) value env = pure (NameReference identifier.name)
    reference (t.Dot object key) value env = dot_of (meaning object [] env) key
    reference (t.Index object key) value env = index_of (meaning object [] env) (meaning key [] env)
    reference (t.SuperDot at key) value env = super_dot_of env key
    reference (t.SuperIndex at key) value env = super_index_of env (meaning key [] env)
    reference form value env = value env >>= (λ v. pure (NoReference v))

    -- a template's values, each made a primitive at once (13.2.8.5)
    pub substitutions : Tree (t.list t.expression) → Environment → Doing (List Value)
    substitutions t.none env = pure []
    substitutions (t.more form forms) env =
        meaning form [] env >>= (λ v. does_act (o.to_text v Give) >>= (λ p. substitutions forms env >>= (λ ps. pure (p ∷ ps))))

    -- an array's elements, each appended at once (13.2.4.1)
    pub elements_of : Tree (t.list t.expression) → (array : Value) → Environment → Doing Value
    elements_of t.none array env = pure array
    elements_of (t.more form forms) array env =
        meaning form [] env >>= (λ v. does_act (append array v (Give array)) >> elements_of forms array env)

  -- a loop from its next turn on
  unfoldable pub turns : Tree t.statement → (copied : List Text) → Environment → Doing (Unit {0})
  turns (t.For head test step body) copied env =
      for_turn copied (meaning test) (meaning step) (meaning body) (smaller.turns (t.For head test step body) copied) env
  turns loop copied env = meaning loop env

  -- ---- bodies of functions (10.2.1, 10.2.2)

  abbrev pub bind_parameters : List Identifier → List Value → Environment → Doing Environment
  bind_parameters [] vs env = pure env
  bind_parameters (name ∷ names) [] env = bind_parameter name Undefined env >>= bind_parameters names []
  bind_parameters (name ∷ names) (v ∷ vs) env = bind_parameter name v env >>= bind_parameters names vs

  -- the cell of a captured `this`; a derived constructor's is initialised by `super(..)`
  abbrev pub initialise_this : Option Value → Environment → Doing Environment
  initialise_this None env = pure env
  initialise_this (Some this) env = initialise_name env this_name this >> pure env

  abbrev pub bind_kept_this : Bool → Environment → Doing Environment
  bind_kept_this false env = pure env
  bind_kept_this true env = λ h. follow (bind env true (receiver env.row.round) h) (initialise_this h.this)

  abbrev pub in_body : List Identifier → (arguments : List Value) → Tree t.body → Environment → Doing Value
  in_body parameters arguments body env = λ h.
      body_value ((bind_parameters parameters arguments env >>= (λ inner. bind_kept_this env.row.keeps_this inner >>= meaning body)) h)

  -- what a construction gives for what its body returned
  abbrev pub constructed : FunctionKind → (target : Option Value) → Value → Doing Value
  constructed kind None v = pure v
  constructed f.Derived (Some target) v = λ h. acts no_calls (derived_result h.this v Give) h
  constructed kind (Some target) v = λ h. acts no_calls (base_result (undefined_or h.this) v Give) h

  -- a base constructor's object is made first; a derived one has none yet
  abbrev pub begin : FunctionKind → (target : Option Value) → (this : Value) → Doing (Unit {0})
  begin f.Derived target this = done
  begin kind None this = λ h. Normal tt (record h { this = Some this })
  begin kind (Some target) this = does_act (create_from_constructor target ObjectPrototype (λ o. Give (Object o))) >>= (λ o h. Normal tt (record h { this = Some o }))

  -- a derived constructor that isn't written constructs its parent with all its arguments
  abbrev pub generated : FunctionKind → Environment → (this : Value) → (arguments : List Value) → Doing Value
  generated f.Derived env this arguments = does_act (super_call env.function env.target arguments Give)
  generated kind env this arguments = begin kind env.target this >> constructed kind env.target Undefined

  abbrev pub run_form : Option FunctionForm → Environment → (this : Value) → (arguments : List Value) → Doing Value
  run_form None env this arguments = raises NotAFunction
  run_form (Some (Generated class)) env this arguments = generated (kind_of_class class) env this arguments
  run_form (Some (Written (t.FunctionOf at name kind parameters body))) env this arguments =
      begin kind env.target this >> (in_body parameters arguments body env >>= constructed kind env.target)

-- ---- functions by number

abbrev pub no_cells : List Held → List (Option Value)
no_cells held = map (λ one. None) held

abbrev pub here : FunctionRow → State → Here
here row s = record { this = None; cells = no_cells row.held; state = s }

abbrev pub environment_of : ModuleTable → (module_number : ℕ) → FunctionRow → (function : ℕ) → (home : Option ℕ) → List Bound → (target : Option Value) → Environment
environment_of table module_number row function home names target =
    record { names = names; table = table; module_number = module_number; row = row; function = function; home = home; target = target }

module _ (tables : List ModuleTable) where
  abbrev pub run_row : Smaller → Option FunctionRow → ModuleTable → (module_number function : ℕ) → (home : Option ℕ) → (cells : List ℕ) → (this : Value) → (arguments : List Value) → (target : Option Value) → State → Ran
  run_row smaller None table module_number function home cells this arguments target s = run no_calls (raise NotAFunction) s
  run_row smaller (Some row) table module_number function home cells this arguments target s =
      as_ran (run_form smaller row.form (environment_of table module_number row function home (outer_names row.free cells) target) this arguments (here row s))

  abbrev pub run_script : Smaller → Option ModuleTable → (module_number function_number function : ℕ) → (home : Option ℕ) → (cells : List ℕ) → (this : Value) → (arguments : List Value) → (target : Option Value) → State → Ran
  run_script smaller None module_number function_number function home cells this arguments target s = run no_calls (raise NotAFunction) s
  run_script smaller (Some table) module_number function_number function home cells this arguments target s =
      run_row smaller (slice_get table.rows function_number) table module_number function home cells this arguments target s

  abbrev pub run_class : Smaller → Class → (function : ℕ) → (this : Value) → (arguments : List Value) → (target : Option Value) → State → Ran
  run_class smaller (ScriptFunction module_number function_number home cells) function this arguments target s =
      run_script smaller (slice_get tables module_number) module_number function_number function home cells this arguments target s
  run_class smaller (BuiltInFunction n) function this arguments target s = run (calls smaller) (row n function target this arguments) s
  run_class smaller (ResolveFunction promise mark) function this arguments target s = run (calls smaller) (row 49 function target this arguments) s
  run_class smaller (RejectFunction promise mark) function this arguments target s = run (calls smaller) (row 50 function target this arguments) s
  run_class smaller c function this arguments target s = run no_calls (raise NotAFunction) s

  -- the body of a call, once the rules of calling let it in
  unfoldable pub bodies : Smaller → (function this : Value) → (arguments : List Value) → (target : Option Value) → State → Ran
  bodies smaller (Object n) this arguments target s = run_class smaller (object_in s.world.heap.store n).class n this arguments target s
  bodies smaller v this arguments target s = run no_calls (raise NotAFunction) s

  -- Where no unit is left nothing in a form can take one, so that this is never asked.
  abbrev pub stopped : Smaller
  stopped = record { bodies = λ f this arguments target s. Halts Budget s; turns = λ loop copied env. ends (Stopped Budget) }

  -- evaluation with so many units of the meter
  unfoldable pub evaluator : ℕ → Smaller
  evaluator zero = record { bodies = λ f this arguments target s. bodies stopped f this arguments target s; turns = λ loop copied env. turns stopped loop copied env }
  evaluator (suc units) = record {
    bodies = λ f this arguments target s. bodies (evaluator units) f this arguments target s;
    turns = λ loop copied env. turns (evaluator units) loop copied env;
  }
