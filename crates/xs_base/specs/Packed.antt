-- Files that lie one after another in one run of bytes, each as its name and then its content.
use Rattle.std.specs.Prelude.{◌≡◌, ◌+◌, ℕ, List, [], ◌∷◌, ◌++◌, length, take, drop, Option, Some, None, cond, sum_by}
use Rattle.std.specs.Str.{bytes_eq}
use Rattle.std.specs.FinMap as map
use Rattle.xs_base.specs.Held.{Contents}
use Rattle.xs_base.specs.Table.{total}
use Rattle.xs_base.specs.declared.extent.Extent.{Extent}
use Rattle.xs_base.specs.declared.extent.Place.{Place}

-- The bytes that a file takes.
abbrev pub size : Extent → ℕ
size extent = extent.name + extent.content

-- The files, in order: each as its name and its content.
abbrev pub entries_of : List Extent → List ℕ → List (List ℕ × List ℕ)
entries_of [] bytes = []
entries_of (extent ∷ extents) bytes = (take extent.name bytes, take extent.content (drop extent.name bytes)) ∷ entries_of extents (drop (extent.name + extent.content) bytes)

abbrev pub contents_of : List Extent → List ℕ → Contents
contents_of extents bytes = map.from_entries (entries_of extents bytes)

-- What the first entry of a name holds.
abbrev pub look : List ℕ → List (List ℕ × List ℕ) → Option (List ℕ)
look name [] = None
look name (entry ∷ entries) = cond (bytes_eq entry.0 name) (Some entry.1) (look name entries)

-- The files fill the bytes, and no name stands twice.
pub record IsPacked (extents : List Extent) (bytes : List ℕ) : Type 0 where
  pub sizes : sum_by size extents ≡ length bytes
  pub total : total (contents_of extents bytes) ≡ length bytes
  pub count : map.len (contents_of extents bytes) ≡ length extents

-- Where the content of a name lies: behind other files and the name.
pub record IsPlace (extents : List Extent) (bytes name : List ℕ) (place : Place) : Type 0 where
  pub before : List Extent
  pub after : List Extent
  pub head : List ℕ
  pub content : List ℕ
  pub tail : List ℕ
  pub extents_are : extents ≡ before ++ record { name = length name; content = length content } ∷ after
  pub bytes_are : bytes ≡ head ++ (name ++ (content ++ tail))
  pub head_size : sum_by size before ≡ length head
  pub unseen : look name (entries_of before head) ≡ None
  pub at : place.at ≡ length before
  pub start : place.start ≡ length head + length name
  pub end : place.end ≡ length head + length name + length content
