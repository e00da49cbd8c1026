-- The language values of the profile (ECMA-262 6.1), and property keys (6.1.7).
use Rattle.std.specs.Prelude.{ℕ, Bool, true, false, cond, List, ℤ, pos, nat_lt, Option, Some, None, bytes_eq}
use Rattle.js_value.specs.NumberText.{text_of_number, index_of_text}

-- a text is a list of 16-bit units
abbrev pub Text : Type 0
Text = List ℕ

abbrev pub same_text : Text → Text → Bool
same_text = bytes_eq

pub data Value : Type 0 where
  Undefined : Value
  Null : Value
  Boolean : Bool → Value
  Number : ℤ → Value
  String : Text → Value
  Object : ℕ → Value  -- by its place in the store

abbrev pub is_object : Value → Bool
is_object (Object n) = true
is_object _ = false

-- A property key is a string. It is an array index, or another text; a number's text that is no array index
-- is told apart from other texts, since it costs something where it becomes a new name.
pub data Key : Type 0 where
  Index : ℕ → Key
  Named : Text → Key
  Numeral : ℤ → Key

-- the string that a key is
abbrev pub text_of_key : Key → Text
text_of_key (Index i) = text_of_number (pos i)
text_of_key (Named t) = t
text_of_key (Numeral n) = text_of_number n

-- a string as a key
abbrev pub key_by : Text → Option ℕ → Key
key_by t (Some i) = Index i
key_by t None = Named t

abbrev pub key_of_text : Text → Key
key_of_text t = key_by t (index_of_text t)

-- a number as a key
abbrev pub key_of_number : ℤ → Key
key_of_number (pos n) = cond (nat_lt n 4294967295) (Index n) (Numeral (pos n))
key_of_number n = Numeral n

abbrev pub is_index : Key → Bool
is_index (Index i) = true
is_index _ = false
