-- What renaming keeps while it goes over a code.
use Rattle.std.proofs.Common.{◌≡◌, ◌<◌, ◌≤◌, ℕ, suc, ◌+◌, ◌-◌, List, [], ◌∷◌, ◌++◌, length, take, drop, inl, inr, refl, sym, ap, subst, ◌∙◌, arith, get_or, append_assoc, length-append, length-drop}
use Rattle.std.proofs.lemmas.List.{take_more, take-append-drop, length-take-le, get_or_append_left, get_or-append-add, get_or-take, get_or-drop, drop-drop, drop_at}
use Rattle.std.proofs.lemmas.Grind.{same_number_lists}
use Rattle.std.proofs.lemmas.Bool.{cases_order}
use Rattle.byte_code.specs.declared.operand.Operand.TheVariants as operand
use Rattle.byte_code.specs.declared.instruction.Op.{Op}
use Rattle.byte_code.specs.declared.instruction.Op.TheVariants.{Text, Get, Set, Delete, SuperGet, SuperSet}
use Rattle.byte_code.specs.Operands.{name_bytes, operand_bytes}
use Rattle.byte_code.specs.Instructions.{parts, spelling, IsInstruction, Begins}
use Rattle.byte_code.specs.ValidCode.{IsStart, First, After, At, Stands, end_of}
use Rattle.byte_code.specs.Renaming.{new_name, renamed}
use Rattle.byte_code.proofs.Starts.{one_op, order, stands_before, ends_inside}
use Rattle.byte_code.proofs.Entering.{first_byte}

-- an instruction with a name, and the others
pub spelling-renamed : (map : List ℕ) (op : Op) (n : ℕ) → (parts op).1 ≡ operand.Name n → spelling (renamed map op) ≡ (parts op).0 ∷ name_bytes (new_name map n)
spelling-renamed map (Text m) n e = let same : m ≡ n = cc in ap (λ x. spelling (Text (new_name map x))) same
spelling-renamed map (Get m) n e = let same : m ≡ n = cc in ap (λ x. spelling (Get (new_name map x))) same
spelling-renamed map (Set m) n e = let same : m ≡ n = cc in ap (λ x. spelling (Set (new_name map x))) same
spelling-renamed map (Delete m) n e = let same : m ≡ n = cc in ap (λ x. spelling (Delete (new_name map x))) same
spelling-renamed map (SuperGet m) n e = let same : m ≡ n = cc in ap (λ x. spelling (SuperGet (new_name map x))) same
spelling-renamed map (SuperSet m) n e = let same : m ≡ n = cc in ap (λ x. spelling (SuperSet (new_name map x))) same
spelling-renamed map _ n e = cc

pub renamed-other : (map : List ℕ) (op : Op) → ((n : ℕ) → (parts op).1 ≡ operand.Name n → ⊥) → renamed map op ≡ op
renamed-other map (Text m) h = absurd (h m refl)
renamed-other map (Get m) h = absurd (h m refl)
renamed-other map (Set m) h = absurd (h m refl)
renamed-other map (Delete m) h = absurd (h m refl)
renamed-other map (SuperGet m) h = absurd (h m refl)
renamed-other map (SuperSet m) h = absurd (h m refl)
renamed-other map _ h = refl

pub length-renamed : (map : List ℕ) (op : Op) → length (spelling (renamed map op)) ≡ length (spelling op)
length-renamed map (Text m) = refl
length-renamed map (Get m) = refl
length-renamed map (Set m) = refl
length-renamed map (Delete m) = refl
length-renamed map (SuperGet m) = refl
length-renamed map (SuperSet m) = refl
length-renamed map _ = refl

-- the instructions before `at` are renamed, and the bytes from there on are the old ones
pub record Progress (old map new : List ℕ) (at : ℕ) : Type 0 where
  pub size : length new ≡ length old
  pub start : IsStart old at
  pub done : (p i : ℕ) (op : Op) → At old p op → p < at → i < length (spelling op) → get_or new (p + i) 0 ≡ get_or (spelling (renamed map op)) i 0
  pub rest : (q : ℕ) → at ≤ q → get_or new q 0 ≡ get_or old q 0

pub at_first : (old map : List ℕ) → Progress old map old 0
at_first old map = record { size = refl; start = First; done = λ p i op s h k. absurd (omega arith); rest = λ q h. refl }

-- what is left is as it was
pub drop-same : (old map new : List ℕ) (at : ℕ) → Progress old map new at → drop at new ≡ drop at old
drop-same old map new at p =
    same_number_lists (drop at new) (drop at old) (length-drop at new ∙ ap (λ n. n - at) p.size ∙ sym (length-drop at old))
    (λ k h. get_or-drop at new k 0 ∙ p.rest (at + k) (omega arith) ∙ sym (get_or-drop at old k 0))

-- a code, cut at the ends of an instruction
pub cut : (code : List ℕ) (at : ℕ) (op : Op) → Begins (drop at code) op → code ≡ take at code ++ (spelling op ++ drop (end_of at op) code)
cut code at op b =
    let behind : drop (end_of at op) code ≡ b.rest =
    sym (drop-drop (length (spelling op)) at code) ∙ ap (λ xs. drop (length (spelling op)) xs) b.split ∙ drop_at (spelling op) b.rest (length (spelling op)) refl in
    sym (take-append-drop at code) ∙ ap (λ xs. take at code ++ xs) b.split ∙ ap (λ xs. take at code ++ (spelling op ++ xs)) (sym behind)

-- reads of three lists in a row
in_front : (xs s t : List ℕ) (k : ℕ) → k < length xs → get_or (xs ++ (s ++ t)) k 0 ≡ get_or xs k 0
in_front xs s t k h = get_or_append_left xs (s ++ t) 0 k h

in_middle : (xs s t : List ℕ) (n i : ℕ) → length xs ≡ n → i < length s → get_or (xs ++ (s ++ t)) (n + i) 0 ≡ get_or s i 0
in_middle xs s t n i e h =
    subst (λ m. get_or (xs ++ (s ++ t)) (m + i) 0 ≡ get_or s i 0) e (get_or-append-add xs (s ++ t) i 0 ∙ get_or_append_left s t 0 i h)

in_back : (xs s t : List ℕ) (n i : ℕ) → length xs + length s ≡ n → get_or (xs ++ (s ++ t)) (n + i) 0 ≡ get_or t i 0
in_back xs s t n i e =
    let l : length (xs ++ s) ≡ n = length-append xs s ∙ e in
    let regrouped : (xs ++ s) ++ t ≡ xs ++ (s ++ t) = append_assoc xs s t in
    subst (λ m. get_or (xs ++ (s ++ t)) (m + i) 0 ≡ get_or t i 0) l (ap (λ ys. get_or ys (length (xs ++ s) + i) 0) (sym regrouped) ∙ get_or-append-add (xs ++ s) t i 0)

-- an instruction was renamed
pub after_one : (old map new next : List ℕ) (at : ℕ) (op : Op) → Progress old map new at → At old at op → next ≡ take at new ++ (spelling (renamed map op) ++ drop (end_of at op) new) → Progress old map next (end_of at op)
after_one old map new next at op p here e =
    let inside : end_of at op ≤ length old = ends_inside old at op here.begins in
    let front : length (take at new) ≡ at = length-take-le at new (omega (arith, p.size)) in
    let middle : length (spelling (renamed map op)) ≡ length (spelling op) = length-renamed map op in
    record {
      size = omega (arith, ap length e, length-append (take at new) (spelling (renamed map op) ++ drop (end_of at op) new), length-append (spelling (renamed map op)) (drop (end_of at op) new), length-drop (end_of at op) new, p.size);
      start = After at (end_of at op) op here.start here.instruction here.begins refl;
      done = λ q i o s less small. elim (cases_order q at) [
        | inl same ↦
            let one : o ≡ op = one_op old at o op (subst (λ x. At old x o) same s) here in
            let small2 : i < length (spelling (renamed map op)) = omega (arith, ap (λ x. length (spelling x)) one) in
            ap (λ xs. get_or xs (q + i) 0) e ∙ ap (λ x. get_or (take at new ++ (spelling (renamed map op) ++ drop (end_of at op) new)) (x + i) 0) same
            ∙ in_middle (take at new) (spelling (renamed map op)) (drop (end_of at op) new) at i front small2
            ∙ ap (λ x. get_or (spelling (renamed map x)) i 0) (sym one)
        | inr (inl sooner) ↦
            let l : end_of q o ≤ at = order old q at o s p.start sooner in
            let k : q + i < at = omega arith in
            ap (λ xs. get_or xs (q + i) 0) e
            ∙ in_front (take at new) (spelling (renamed map op)) (drop (end_of at op) new) (q + i) (omega arith)
            ∙ get_or-take at new (q + i) 0 k
            ∙ p.done q i o s sooner small
        | inr (inr later) ↦ let l : end_of at op ≤ q = order old at q op here s.start later in absurd (omega arith)
      ];
      rest = λ q less.
          let more : q ≡ end_of at op + (q - end_of at op) = omega arith in
          ap (λ xs. get_or xs q 0) e
          ∙ ap (λ x. get_or (take at new ++ (spelling (renamed map op) ++ drop (end_of at op) new)) x 0) more
          ∙ in_back (take at new) (spelling (renamed map op)) (drop (end_of at op) new) (end_of at op) (q - end_of at op) (omega arith)
          ∙ get_or-drop (end_of at op) new (q - end_of at op) 0
          ∙ ap (λ x. get_or new x 0) (sym more)
          ∙ p.rest q (omega arith);
    }

-- an instruction without a name stays
pub after_other : (old map new : List ℕ) (at : ℕ) (op : Op) → Progress old map new at → At old at op → Begins (drop at new) op → ((n : ℕ) → (parts op).1 ≡ operand.Name n → ⊥) → Progress old map new (end_of at op)
after_other old map new at op p here b none =
    after_one old map new new at op p here
    (cut new at op b ∙ ap (λ o. take at new ++ (spelling o ++ drop (end_of at op) new)) (sym (renamed-other map op none)))

-- a name was written over the old one
pub after_name : (old map new next : List ℕ) (at : ℕ) (op : Op) (n : ℕ) → Progress old map new at → At old at op → Begins (drop at new) op → at < length new → (parts op).1 ≡ operand.Name n → next ≡ take (at + 1) new ++ (name_bytes (new_name map n) ++ drop (at + 1 + 2) new) → Progress old map next (end_of at op)
after_name old map new next at op n p here b within name e =
    let front : take (at + 1) new ≡ take at new ++ ((parts op).0 ∷ []) = take_more new at 0 within ∙ ap (λ x. take at new ++ (x ∷ [])) (first_byte new at op b) in
    let length_is : length (spelling op) ≡ 3 = ap (λ o. suc (length (operand_bytes o))) name in
    let tail : drop (at + 1 + 2) new ≡ drop (end_of at op) new = ap (λ x. drop x new) (omega (arith, length_is)) in
    let text : spelling (renamed map op) ≡ (parts op).0 ∷ name_bytes (new_name map n) = spelling-renamed map op n name in
    after_one old map new next at op p here
    (e ∙ ap (λ xs. xs ++ (name_bytes (new_name map n) ++ drop (at + 1 + 2) new)) front
    ∙ append_assoc (take at new) ((parts op).0 ∷ []) (name_bytes (new_name map n) ++ drop (at + 1 + 2) new)
    ∙ ap (λ xs. take at new ++ ((parts op).0 ∷ (name_bytes (new_name map n) ++ xs))) tail
    ∙ ap (λ xs. take at new ++ (xs ++ drop (end_of at op) new)) (sym text))

-- the instruction that stands where the pass is
pub here_at : (old map new : List ℕ) (at : ℕ) (op : Op) → Progress old map new at → IsInstruction op → Begins (drop at new) op → At old at op
here_at old map new at op p i b = record { start = p.start; instruction = i; begins = subst (λ xs. Begins xs op) (drop-same old map new at p) b }

-- some instruction stands there
pub none_here : (old map new : List ℕ) (at : ℕ) → Progress old map new at → IsStart old (length old) → at < length new → ((op : Op) → IsInstruction op → Begins (drop at new) op → ⊥) → ⊥
none_here old map new at p all within none =
    let s : Stands old at = stands_before old at (length old) p.start all (omega (arith, p.size)) in
    none s.op s.at.instruction (subst (λ xs. Begins xs s.op) (sym (drop-same old map new at p)) s.at.begins)
