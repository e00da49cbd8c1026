-- An operand and its bytes: what is read is spelled so, and what is spelled so is read.
use Rattle.std.proofs.Common.{◌≡◌, ℕ, ◌<◌, ◌≤◌, ◌+◌, ◌^◌, zero, suc, List, [], ◌∷◌, ◌++◌, length, take, get_or, refl, sym, ap, subst, ◌∙◌, arith, lit<, FitsSigned}
use Rattle.std.proofs.lemmas.List.{length-take-le}
use Rattle.std.proofs.lemmas.Nat.{be_bytes_2, be_bytes_4, be_bytes_8}
use Rattle.std.proofs.lemmas.Int.{of_z-to_z, to_z-of_z}
use Rattle.std.proofs.Math.Facts.{sfits_to_z, Fits-of_z}
use Rattle.std.specs.Int.{w8, w16, w32, w64, cast_unsigned, cast_signed, from_be_bytes}
use Rattle.byteorder.specs.Endian.{big_from, big_number, big_bytes}
use Rattle.byteorder.specs.Numbers.{big_number-reads_back, big_from-take, big_from-lt}
use Rattle.byte_code.specs.declared.operand.Operand.{Operand}
use Rattle.byte_code.specs.declared.operand.Operand.TheVariants.{Nothing, Int8, Int32, Int64, Name, Place, Outer, Jump, Function, Count, Global, BinaryRow, UnaryRow, Message, DefineMode, NameMode}
use Rattle.byte_code.specs.declared.operand.Following.{Following}
use Rattle.byte_code.specs.Operands.{IsRead, IsFollowing, operand_bytes, FitsBytes}

abbrev pub IsBytes : List ℕ → Type 0
IsBytes xs = (i : ℕ) → get_or xs i 0 < 256

-- two lists that agree on n places from i on hold one number there
pub big_from-same : (i n : ℕ) (xs ys : List ℕ) → ((k : ℕ) → k < i + n → get_or xs k 0 ≡ get_or ys k 0) → big_from i n xs ≡ big_from i n ys
big_from-same i zero xs ys h = refl
big_from-same i (suc n) xs ys h =
    let e : get_or xs i 0 ≡ get_or ys i 0 = h i (omega arith) in
    let r : big_from (suc i) n xs ≡ big_from (suc i) n ys = big_from-same (suc i) n xs ys (λ k b. h k (omega arith)) in
    cc

-- the first bytes of bytes
take_nil : (n : ℕ) → take {A = ℕ} n [] ≡ []
take_nil zero = refl
take_nil (suc n) = refl

take_bytes : (n : ℕ) (xs : List ℕ) → IsBytes xs → IsBytes (take n xs)
take_bytes n [] b i = subst (λ ys. get_or ys i 0 < 256) (sym (take_nil n)) (lit< tt)
take_bytes zero (x ∷ xs) b i = lit< tt
take_bytes (suc n) (x ∷ xs) b zero = b 0
take_bytes (suc n) (x ∷ xs) b (suc i) = take_bytes n xs (λ j. b (suc j)) i

-- the two ways in which a number of n bytes is written down
number_2 : (ys : List ℕ) → big_number 2 ys ≡ from_be_bytes w16 ys
number_2 ys = omega arith

number_4 : (ys : List ℕ) → big_number 4 ys ≡ from_be_bytes w32 ys
number_4 ys = omega arith

number_8 : (ys : List ℕ) → big_number 8 ys ≡ from_be_bytes w64 ys
number_8 ys = omega arith

take_2 : (xs : List ℕ) → IsBytes xs → 2 ≤ length xs → big_bytes 2 (big_number 2 xs) ≡ take 2 xs
take_2 xs b h =
    let bytes : IsBytes (take 2 xs) = take_bytes 2 xs b in
    be_bytes_2 (take 2 xs) (big_number 2 xs) (length-take-le 2 xs h) bytes (sym (big_from-take 0 2 2 xs (omega arith)) ∙ number_2 (take 2 xs))

take_4 : (xs : List ℕ) → IsBytes xs → 4 ≤ length xs → big_bytes 4 (big_number 4 xs) ≡ take 4 xs
take_4 xs b h =
    let bytes : IsBytes (take 4 xs) = take_bytes 4 xs b in
    be_bytes_4 (take 4 xs) (big_number 4 xs) (length-take-le 4 xs h) bytes (sym (big_from-take 0 4 4 xs (omega arith)) ∙ number_4 (take 4 xs))

take_8 : (xs : List ℕ) → IsBytes xs → 8 ≤ length xs → big_bytes 8 (big_number 8 xs) ≡ take 8 xs
take_8 xs b h =
    let bytes : IsBytes (take 8 xs) = take_bytes 8 xs b in
    be_bytes_8 (take 8 xs) (big_number 8 xs) (length-take-le 8 xs h) bytes (sym (big_from-take 0 8 8 xs (omega arith)) ∙ number_8 (take 8 xs))

take_1 : (xs : List ℕ) → 1 ≤ length xs → get_or xs 0 0 ∷ [] ≡ take 1 xs
take_1 [] h = absurd (omega arith)
take_1 (x ∷ xs) h = refl

-- the bytes of an operand that was read are those that follow
pub bytes-read : (rest : List ℕ) (f : Following) (o : Operand) → IsBytes rest → IsFollowing rest f → IsRead f o → length (operand_bytes o) ≤ length rest → operand_bytes o ≡ take (length (operand_bytes o)) rest
bytes-read rest f Nothing b i r h = refl
bytes-read rest f (Int8 n) b i r h = ap (λ v. v ∷ []) (ap (cast_unsigned w8) (r ∙ i.int8) ∙ of_z-to_z w8 _ (b 0)) ∙ take_1 rest h
bytes-read rest f (Int32 n) b i r h = ap (λ v. big_bytes 4 v) (ap (cast_unsigned w32) (r ∙ i.int32) ∙ of_z-to_z w32 _ (big_from-lt 0 4 rest b)) ∙ take_4 rest b h
bytes-read rest f (Int64 n) b i r h = ap (λ v. big_bytes 8 v) (ap (cast_unsigned w64) (r ∙ i.int64) ∙ of_z-to_z w64 _ (big_from-lt 0 8 rest b)) ∙ take_8 rest b h
bytes-read rest f (Name n) b i r h = ap (λ v. big_bytes 2 v) (r ∙ i.name) ∙ take_2 rest b h
bytes-read rest f (Jump n) b i r h = ap (λ v. big_bytes 2 v) (r ∙ i.jump) ∙ take_2 rest b h
bytes-read rest f (Place n) b i r h = ap (λ v. big_bytes 2 v) (r ∙ i.pair) ∙ take_2 rest b h
bytes-read rest f (Outer n) b i r h = ap (λ v. big_bytes 2 v) (r ∙ i.pair) ∙ take_2 rest b h
bytes-read rest f (Function n) b i r h = ap (λ v. big_bytes 2 v) (r ∙ i.pair) ∙ take_2 rest b h
bytes-read rest f (Count n) b i r h = ap (λ v. v ∷ []) (r ∙ i.byte) ∙ take_1 rest h
bytes-read rest f (Global n) b i r h = ap (λ v. v ∷ []) (r ∙ i.byte) ∙ take_1 rest h
bytes-read rest f (BinaryRow n) b i r h = ap (λ v. v ∷ []) (r ∙ i.byte) ∙ take_1 rest h
bytes-read rest f (UnaryRow n) b i r h = ap (λ v. v ∷ []) (r ∙ i.byte) ∙ take_1 rest h
bytes-read rest f (Message n) b i r h = ap (λ v. v ∷ []) (r ∙ i.byte) ∙ take_1 rest h
bytes-read rest f (DefineMode n) b i r h = ap (λ v. v ∷ []) (r ∙ i.byte) ∙ take_1 rest h
bytes-read rest f (NameMode n) b i r h = ap (λ v. v ∷ []) (r ∙ i.byte) ∙ take_1 rest h

-- an operand that was read fits its bytes
pub fits-read : (rest : List ℕ) (f : Following) (o : Operand) → IsBytes rest → IsFollowing rest f → IsRead f o → FitsBytes o
fits-read rest f Nothing b i r = tt
fits-read rest f (Int8 n) b i r = subst (λ z. FitsSigned w8 z) (sym (r ∙ i.int8)) (sfits_to_z (record { fits = b 0 }))
fits-read rest f (Int32 n) b i r = subst (λ z. FitsSigned w32 z) (sym (r ∙ i.int32)) (sfits_to_z (record { fits = big_from-lt 0 4 rest b }))
fits-read rest f (Int64 n) b i r = subst (λ z. FitsSigned w64 z) (sym (r ∙ i.int64)) (sfits_to_z (record { fits = big_from-lt 0 8 rest b }))
fits-read rest f (Name n) b i r = subst (λ v. v < 2 ^ 16) (sym (r ∙ i.name)) (big_from-lt 0 2 rest b)
fits-read rest f (Jump n) b i r = subst (λ v. v < 2 ^ 16) (sym (r ∙ i.jump)) (big_from-lt 0 2 rest b)
fits-read rest f (Place n) b i r = subst (λ v. v < 2 ^ 16) (sym (r ∙ i.pair)) (big_from-lt 0 2 rest b)
fits-read rest f (Outer n) b i r = subst (λ v. v < 2 ^ 16) (sym (r ∙ i.pair)) (big_from-lt 0 2 rest b)
fits-read rest f (Function n) b i r = subst (λ v. v < 2 ^ 16) (sym (r ∙ i.pair)) (big_from-lt 0 2 rest b)
fits-read rest f (Count n) b i r = subst (λ v. v < 2 ^ 8) (sym (r ∙ i.byte)) (b 0)
fits-read rest f (Global n) b i r = subst (λ v. v < 2 ^ 8) (sym (r ∙ i.byte)) (b 0)
fits-read rest f (BinaryRow n) b i r = subst (λ v. v < 2 ^ 8) (sym (r ∙ i.byte)) (b 0)
fits-read rest f (UnaryRow n) b i r = subst (λ v. v < 2 ^ 8) (sym (r ∙ i.byte)) (b 0)
fits-read rest f (Message n) b i r = subst (λ v. v < 2 ^ 8) (sym (r ∙ i.byte)) (b 0)
fits-read rest f (DefineMode n) b i r = subst (λ v. v < 2 ^ 8) (sym (r ∙ i.byte)) (b 0)
fits-read rest f (NameMode n) b i r = subst (λ v. v < 2 ^ 8) (sym (r ∙ i.byte)) (b 0)

pair_back : (n : ℕ) (tail : List ℕ) → n < 2 ^ 16 → big_number 2 (big_bytes 2 n ++ tail) ≡ n
pair_back n tail h = big_number-reads_back 2 n tail h

-- an operand whose bytes follow is the one that is read
pub read-bytes : (rest tail : List ℕ) (f : Following) (o : Operand) → FitsBytes o → rest ≡ operand_bytes o ++ tail → IsFollowing rest f → IsRead f o
read-bytes rest tail f Nothing g e i = tt
read-bytes rest tail f (Int8 n) g e i = sym (i.int8 ∙ ap (λ xs. cast_signed w8 (get_or xs 0 0)) e ∙ to_z-of_z w8 n g)
read-bytes rest tail f (Int32 n) g e i = sym (i.int32 ∙ ap (λ xs. cast_signed w32 (big_number 4 xs)) e ∙ ap (cast_signed w32) (big_number-reads_back 4 (cast_unsigned w32 n) tail (Fits-of_z g).fits) ∙ to_z-of_z w32 n g)
read-bytes rest tail f (Int64 n) g e i = sym (i.int64 ∙ ap (λ xs. cast_signed w64 (big_number 8 xs)) e ∙ ap (cast_signed w64) (big_number-reads_back 8 (cast_unsigned w64 n) tail (Fits-of_z g).fits) ∙ to_z-of_z w64 n g)
read-bytes rest tail f (Name n) g e i = sym (i.name ∙ ap (λ xs. big_number 2 xs) e ∙ pair_back n tail g)
read-bytes rest tail f (Jump n) g e i = sym (i.jump ∙ ap (λ xs. big_number 2 xs) e ∙ pair_back n tail g)
read-bytes rest tail f (Place n) g e i = sym (i.pair ∙ ap (λ xs. big_number 2 xs) e ∙ pair_back n tail g)
read-bytes rest tail f (Outer n) g e i = sym (i.pair ∙ ap (λ xs. big_number 2 xs) e ∙ pair_back n tail g)
read-bytes rest tail f (Function n) g e i = sym (i.pair ∙ ap (λ xs. big_number 2 xs) e ∙ pair_back n tail g)
read-bytes rest tail f (Count n) g e i = sym (i.byte ∙ ap (λ xs. get_or xs 0 0) e)
read-bytes rest tail f (Global n) g e i = sym (i.byte ∙ ap (λ xs. get_or xs 0 0) e)
read-bytes rest tail f (BinaryRow n) g e i = sym (i.byte ∙ ap (λ xs. get_or xs 0 0) e)
read-bytes rest tail f (UnaryRow n) g e i = sym (i.byte ∙ ap (λ xs. get_or xs 0 0) e)
read-bytes rest tail f (Message n) g e i = sym (i.byte ∙ ap (λ xs. get_or xs 0 0) e)
read-bytes rest tail f (DefineMode n) g e i = sym (i.byte ∙ ap (λ xs. get_or xs 0 0) e)
read-bytes rest tail f (NameMode n) g e i = sym (i.byte ∙ ap (λ xs. get_or xs 0 0) e)
