-- Instructions that are done in a row.
use Rattle.std.proofs.Common.{[], ◌∷◌, ◌≡◌, ◌<◌, ◌≤◌, ◌+◌, ◌-◌, ◌∙◌, ◌⊎◌, inl, inr, ℕ, zero, suc, ℤ, pos, List, length, Option, None, Some, IfSome, IsSomeAnd, refl, sym, ap, subst, arith, slice_get, slice_index_or, set, length-set}
use Rattle.std.proofs.lemmas.List.{get_or-set_other}
use Rattle.std.proofs.lemmas.Bool.Decides.{eqb_tells}
use Rattle.std.proofs.lemmas.Option.{same_Some, slice_get-get_or as get_at}
use Rattle.sig_lists.proofs.Places.{some_at}
use Rattle.sig_lists.proofs.SetItems.{get_set_other}
use Rattle.sig_cells.specs.Instants.{DoesAt, Keeps}
use Rattle.sig_cells.specs.Rows.{AreInstructions, Does, GoesTo, Stops, listed}
use Rattle.sig_cells.specs.Instructions.{Cells, Fails, IsDone, ReadsWithin, cells_of, input_id, input_taken, left_by, taken_after}
use Rattle.sig_cells.specs.Opcodes.{IsCoded, work_of}
use Rattle.sig_cells.specs.inner.Quick.{ComesTo}
use Rattle.sig_cells.specs.declared.coded.Coded.{Coded}
use Rattle.sig_cells.specs.declared.coded.Opcode.{Opcode}
use Rattle.sig_cells.specs.declared.instruction.Instruction.{Instruction}
use Rattle.sig_cells.specs.declared.instructions.Instructions.{Instructions}
use Rattle.sig_cells.specs.declared.instruction.Work.{Work}
use Rattle.sig_cells.specs.declared.instruction.Work.TheVariants.{Next}
use Rattle.sig_plan.specs.declared.ended.Cause.{Cause}

-- ---- where they go to

module _ (instructions : List Instruction) (flows : List (List ℤ)) (instant : ℕ) where
  pub goes_nowhere : (place : ℕ) (s : Cells) → GoesTo instructions flows instant place place s s
  goes_nowhere place s = record { count = 0; ends = omega arith; does = refl }

  pub goes_one_on : (from place : ℕ) (s t u : Cells) → GoesTo instructions flows instant from place s t → DoesAt instructions flows instant place t u
      → GoesTo instructions flows instant from (place + 1) s u
  goes_one_on from place s t u goes on = record {
    count = suc goes.count;
    ends = (let e = goes.ends in omega (arith, e));
    does = (t, goes.does, subst (λ (n : ℕ). DoesAt instructions flows instant n t u) (sym goes.ends) on);
  }

  does_further : (from n k : ℕ) (s t u : Cells) → Does instructions flows instant from n s t → Does instructions flows instant (from + n) k t u
      → Does instructions flows instant from (n + k) s u
  does_further from n zero s t u first on =
      subst (λ (c : ℕ). Does instructions flows instant from c s u) (omega arith) (subst (λ (x : Cells). Does instructions flows instant from n s x) (sym on) first)
  does_further from n (suc k) s t u first on =
      let more : suc (n + k) ≡ n + suc k = omega arith in
      let there : from + n + k ≡ from + (n + k) = omega arith in
      subst (λ (c : ℕ). Does instructions flows instant from c s u) more
      (on.0, does_further from n k s t on.0 first on.1, subst (λ (p : ℕ). DoesAt instructions flows instant p on.0 u) there on.2)

  pub goes_further : (from place later : ℕ) (s t u : Cells) → GoesTo instructions flows instant from place s t → GoesTo instructions flows instant place later t u
      → GoesTo instructions flows instant from later s u
  goes_further from place later s t u goes on = record {
    count = goes.count + on.count;
    ends = (let e = goes.ends in let f = on.ends in omega (arith, e, f));
    does = does_further from goes.count on.count s t u goes.does (subst (λ (p : ℕ). Does instructions flows instant p on.count t u) (sym goes.ends) on.does);
  }

-- so many before the end of a stretch
pub left_within : (from to left count : ℕ) → left ≤ to - from → from ≤ to → to ≤ count → 0 < left → to - left < count
left_within from to left count some forth within more = omega arith

pub left_first : (from to : ℕ) → from ≤ to → from ≡ to - (to - from)
left_first from to forth = omega arith

pub left_next : (from to left : ℕ) → left ≤ to - from → from ≤ to → 0 < left → to - left + 1 ≡ to - (left - 1)
left_next from to left some forth more = omega arith

-- ---- what they keep

pub taken_stays : (work : Work) (taken : List ℕ) → input_taken work ≡ None → taken_after work taken ≡ taken
taken_stays (Next input) taken stays = absurd (let some : Some (input_id input) ≡ None = stays in cc)
taken_stays other taken stays = refl

after_count : (work : Work) (taken : List ℕ) → length (taken_after work taken) ≡ length taken
after_count (Next input) taken = length-set taken input (slice_index_or taken input 0 + 1)
after_count other taken = refl

-- in a list of which one item was set, each is as before, or what was set
was_or_set : (xs : List ℕ) (k x number stamp : ℕ) → slice_get (set xs k x) number ≡ Some stamp → (slice_get xs number ≡ Some stamp) ⊎ (stamp ≡ x)
was_or_set [] k x number stamp is = inl is
was_or_set (y ∷ ys) zero x zero stamp is = inr (same_Some stamp x (sym is))
was_or_set (y ∷ ys) zero x (suc n) stamp is = inl is
was_or_set (y ∷ ys) (suc k) x zero stamp is = inl is
was_or_set (y ∷ ys) (suc k) x (suc n) stamp is = was_or_set ys k x n stamp is

module _ (instructions : List Instruction) (instant : ℕ) where
  pub keeps_all : (s : Cells) → Keeps instructions instant s s
  keeps_all s = record {
    values = refl;
    stamps = refl;
    taken = refl;
    others = λ number none. refl;
    other_stamps = λ number none. refl;
    written = λ number stamp is. inl is;
  }

  pub keeps_further : (s t u : Cells) → Keeps instructions instant s t → Keeps instructions instant t u → Keeps instructions instant s u
  keeps_further s t u one two = record {
    values = two.values ∙ one.values;
    stamps = two.stamps ∙ one.stamps;
    taken = two.taken ∙ one.taken;
    others = λ number none. two.others number none ∙ one.others number none;
    other_stamps = λ number none. two.other_stamps number none ∙ one.other_stamps number none;
    written = λ number stamp is. elim (two.written number stamp is) [
      | inl there ↦ one.written number stamp there
      | inr now ↦ inr now
    ];
  }

  module _ (place : ℕ) (instruction : Instruction) (at : slice_get instructions place ≡ Some instruction) where
    keeps_left : (value : ℤ) (s : Cells) → Keeps instructions instant s (left_by instruction value instant s)
    keeps_left value s = record {
      values = length-set s.values instruction.target value;
      stamps = length-set s.stamps instruction.target instant;
      taken = after_count instruction.work s.taken;
      others = λ number none. elim (eqb_tells number instruction.target) [
        | inl same ↦ absurd (none place instruction at (sym same.1))
        | inr other ↦ get_or-set_other s.values instruction.target number value (pos 0) other.1
      ];
      other_stamps = λ number none. elim (eqb_tells number instruction.target) [
        | inl same ↦ absurd (none place instruction at (sym same.1))
        | inr other ↦ get_set_other s.stamps instruction.target number instant other.1
      ];
      written = λ number stamp is. was_or_set s.stamps instruction.target instant number stamp is;
    }

    pub keeps_done : (flows : List (List ℤ)) (s t : Cells) → IsDone flows instant instruction s t → Keeps instructions instant s t
    keeps_done flows s t is = subst (λ (u : Cells). Keeps instructions instant s u) (sym is.leaves) (keeps_left is.value s)

-- ---- up to a place

-- From one place up to another instructions are done, and they are still within as many inputs and cells.
pub record AreDoneTo (all : Instructions) (flows : List (List ℤ)) (instant from place : ℕ) (s t : Cells) : Type 0 where
  pub instructions : AreInstructions (length t.taken) (length t.values) all
  pub stamps : length t.stamps ≡ length t.values
  pub goes : GoesTo (listed all) flows instant from place s t
  pub keeps : Keeps (listed all) instant s t

module _ (all : Instructions) (flows : List (List ℤ)) (instant from : ℕ) (s : Cells) where
  pub none_done_yet : AreInstructions (length s.taken) (length s.values) all → length s.stamps ≡ length s.values → AreDoneTo all flows instant from from s s
  none_done_yet is stamps = record {
    instructions = is;
    stamps = stamps;
    goes = goes_nowhere (listed all) flows instant from s;
    keeps = keeps_all (listed all) instant s;
  }

  pub done_further : (place later : ℕ) (t u : Cells) → AreDoneTo all flows instant from place s t → GoesTo (listed all) flows instant place later t u
      → Keeps (listed all) instant t u → AreDoneTo all flows instant from later s u
  done_further place later t u done on keeps = record {
    instructions = subst (λ (n : ℕ). AreInstructions n (length u.values) all) (sym keeps.taken)
        (subst (λ (n : ℕ). AreInstructions (length t.taken) n all) (sym keeps.values) done.instructions);
    stamps = keeps.stamps ∙ done.stamps ∙ sym keeps.values;
    goes = goes_further (listed all) flows instant from place later s t u done.goes on;
    keeps = keeps_further (listed all) instant s t u done.keeps keeps;
  }

  module _ (place : ℕ) (t : Cells) (done : AreDoneTo all flows instant from place s t) where
    -- the instruction of the place
    module _ (instruction : Instruction) (at : slice_get (listed all) place ≡ Some instruction) where
      pub reads_there : ReadsWithin (length t.taken) (length t.values) instruction.work
      reads_there = (done.instructions.within place instruction at).reads

      pub target_there : instruction.target < length t.values
      target_there = (done.instructions.within place instruction at).target

      pub stamp_there : instruction.target < length t.stamps
      stamp_there = let lt = target_there in let same = done.stamps in omega (arith, lt, same)

      pub done_one_on : (u : Cells) → IsDone flows instant instruction t u → AreDoneTo all flows instant from (place + 1) s u
      done_one_on u is =
          done_further place (place + 1) t u done
          (goes_one_on (listed all) flows instant place place t t u (goes_nowhere (listed all) flows instant place t) (instruction, at, is))
          (keeps_done (listed all) instant place instruction at flows t u is)

      pub stops_here : (cause : Cause) × Fails flows instruction t cause → Stops (listed all) flows place t
      stops_here fails = (fails.0, (instruction, at, fails.1))

-- ---- an instruction that its opcode tells

pub same_cells : (values others : List ℤ) (stamps other_stamps taken other_taken : List ℕ) → values ≡ others → stamps ≡ other_stamps → taken ≡ other_taken
    → cells_of values stamps taken ≡ cells_of others other_stamps other_taken
same_cells values others stamps other_stamps taken other_taken one two three =
    ap (λ (xs : List ℤ). cells_of xs stamps taken) one ∙ ap (λ (xs : List ℕ). cells_of others xs taken) two ∙ ap (λ (xs : List ℕ). cells_of others other_stamps xs) three

pub done_as : (all : Instructions) (flows : List (List ℤ)) (instant from : ℕ) (s : Cells) (place : ℕ) (values others : List ℤ) (stamps other_stamps taken other_taken : List ℕ)
    → others ≡ values → other_stamps ≡ stamps → other_taken ≡ taken → AreDoneTo all flows instant from place s (cells_of values stamps taken)
    → AreDoneTo all flows instant from place s (cells_of others other_stamps other_taken)
done_as all flows instant from s place values others stamps other_stamps taken other_taken one two three done =
    subst (λ (t : Cells). AreDoneTo all flows instant from place s t) (sym (same_cells others values other_stamps stamps other_taken taken one two three)) done

-- what an opcode comes to is what the work comes to that it means
comes_to : (o : Option Work) (values : List ℤ) (v : ℤ) (work : Work) → IfSome o (λ w. w ≡ work) → IsSomeAnd o (ComesTo values v) → ComesTo values v work
comes_to None values v work same comes = absurd comes
comes_to (Some w) values v work same comes = subst (ComesTo values v) same comes

-- what is read past the end of a list of coded instructions
abbrev pub blank : Coded
blank = record { opcode = Opcode.Other; a = 0; b = 0; target = 0 }

module _ (all : Instructions) (flows : List (List ℤ)) (instant from : ℕ) (s : Cells) (place : ℕ) (values : List ℤ) (stamps taken : List ℕ)
    (done : AreDoneTo all flows instant from place s (cells_of values stamps taken)) (own : List Coded) (same : own ≡ all.coded.items)
    (within : place < length (listed all)) where
  abbrev c : Coded
  c = slice_index_or own place blank

  coded_at : slice_get all.coded.items place ≡ Some c
  coded_at = subst (λ (xs : List Coded). slice_get all.coded.items place ≡ Some (slice_index_or xs place blank)) (sym same)
      (get_at all.coded.items place blank (let all = done.instructions.coded.count in omega (arith, all, within)))

  there : (instruction : Instruction) × (slice_get (listed all) place ≡ Some instruction)
  there = some_at (listed all) place within

  is_coded : IsCoded there.0 c
  is_coded = done.instructions.coded.each place there.0 c there.1 coded_at

  pub coded_target : c.target < length values
  coded_target = let one = is_coded.target in let lt = (done.instructions.within place there.0 there.1).target in omega (arith, one, lt)

  pub coded_stamp : c.target < length stamps
  coded_stamp = let lt = coded_target in let all = done.stamps in omega (arith, lt, all)

  pub coded_reads : (c.a < length values) × (c.b < length values)
  coded_reads = is_coded.reads (length taken) (length values) (done.instructions.within place there.0 there.1).reads (let lt = coded_target in omega (arith, lt))

  pub value_done : (v : ℤ) → IsSomeAnd (work_of c.opcode c.a c.b) (ComesTo values v)
      → AreDoneTo all flows instant from (place + 1) s (cells_of (set values c.target v) (set stamps c.target instant) taken)
  value_done v tells =
      let comes = comes_to (work_of c.opcode c.a c.b) values v there.0.work is_coded.work tells in
      done_one_on all flows instant from s place (cells_of values stamps taken) done there.0 there.1 (cells_of (set values c.target v) (set stamps c.target instant) taken) (record {
        value = v;
        gives = comes.value flows taken;
        leaves = same_cells (set values c.target v) (set values there.0.target v) (set stamps c.target instant) (set stamps there.0.target instant) taken (taken_after there.0.work taken)
            (ap (λ (n : ℕ). set values n v) is_coded.target) (ap (λ (n : ℕ). set stamps n instant) is_coded.target) (sym (taken_stays there.0.work taken comes.stays));
      })
