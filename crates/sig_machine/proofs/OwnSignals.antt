-- The signals that an actor writes, and what is kept of their cells.
use Rattle.sig_machine.specs.Prelude.{Seen}
use Rattle.std.proofs.lemmas.Bool.{lt-ltb}
use Rattle.sig_machine.proofs.LeftValues.{or_other, or_same}
use Rattle.sig_machine.proofs.Lists.{same_Some}
use Rattle.sig_machine.proofs.Common.{◌≡◌, ◌<◌, ◌≤◌, ◌⊎◌, ◌∙◌, ◌&&◌, ◌||◌, inl, inr, Bool, true, false, not, ℕ, ℤ, pos, List, length, nat_lt, slice_get, Some, ap, sym, subst, arith, ltb-true, ltb-false, eqb_tells, get_within, length-set, set, ◌+◌, ◌-◌, if◌then◌else◌, None, PlanView, refl, Instruction, ActorMachine, SigId, Begins, HasActor, cells_of, last_in, registers_in, seen_in, stamped, AreKept, AreOwnBelow, KeepsOwn, Own, WritesOwn, cell, is_kept, is_own}

-- ---- cells that are kept one by one

-- the cells from one on and below this one are kept, which is not behind the end
pub record AreKeptUpTo (from to number : ℕ) (cells last after kept : List ℤ) : Type 0 where
  pub are : AreKept from number cells last after kept
  pub later : from ≤ number
  pub ends : (number ≤ to) ⊎ (number ≡ from)

pub none_kept : (from to : ℕ) (cells last : List ℤ) → AreKeptUpTo from to from cells last cells last
none_kept from to cells last = record {
  are = record {
    count = refl;
    kept_count = refl;
    inside = λ number later before. absurd (omega (arith, later, before));
    outside = λ number out. (refl, refl);
  };
  later = omega arith;
  ends = inr refl;
}

pub one_kept : (from to n : ℕ) (cells last after kept : List ℤ) → n < to → n < length after → n < length kept → AreKeptUpTo from to n cells last after kept
    → AreKeptUpTo from to (n + 1) cells last (set after n (pos 0)) (set kept n (cell after n))
one_kept from to n cells last after kept before within within_kept is = record {
  are = record {
    count = length-set after n (pos 0) ∙ is.are.count;
    kept_count = length-set kept n (cell after n) ∙ is.are.kept_count;
    inside = λ number later less. elim (eqb_tells number n) [
      | inl same ↦ subst (λ (m : ℕ). (cell (set after n (pos 0)) m ≡ pos 0) × (cell (set kept n (cell after n)) m ≡ cell cells m)) (sym same.1)
          (or_same after n (pos 0) (pos 0) within, or_same kept n (cell after n) (pos 0) within_kept ∙ (is.are.outside n (inr (omega arith))).0)
      | inr other ↦ let (zero, as_was) = is.are.inside number later (let apart = other.1 in omega (arith, less, apart)) in
          (or_other after n number (pos 0) (pos 0) other.1 ∙ zero, or_other kept n number (cell after n) (pos 0) other.1 ∙ as_was)
    ];
    outside = λ number out.
        let apart : number ≡ n → ⊥ = λ same. let later = is.later in elim out [
          | inl less ↦ absurd (omega (arith, less, same, later))
          | inr more ↦ absurd (omega (arith, more, same))
        ] in
        let (same, kept_same) = is.are.outside number (elim out [
          | inl less ↦ inl less
          | inr more ↦ inr (omega (arith, more))
        ]) in
        (or_other after n number (pos 0) (pos 0) apart ∙ same, or_other kept n number (cell after n) (pos 0) apart ∙ kept_same);
  };
  later = let later = is.later in omega (arith, later);
  ends = inl (omega (arith, before));
}

before_or_behind : (n m : ℕ) → (n < m) ⊎ (m ≤ n)
before_or_behind n m = by (nat_lt n m) refl where
  by : (b : Bool) → nat_lt n m ≡ b → (n < m) ⊎ (m ≤ n)
  by true less = inl (ltb-true n m less)
  by false more = inr (ltb-false n m more)

pub all_kept : (from to number : ℕ) (cells last after kept : List ℤ) → to ≤ number → AreKeptUpTo from to number cells last after kept → AreKept from to cells last after kept
all_kept from to number cells last after kept past is = elim is.ends [
  | inl most ↦ subst (λ (n : ℕ). AreKept from n cells last after kept) (omega (arith, past, most)) is.are
  | inr none ↦ record {
    count = is.are.count;
    kept_count = is.are.kept_count;
    inside = λ n later before. absurd (omega (arith, later, before, past, none));
    outside = λ n out. is.are.outside n (elim out [
      | inl less ↦ inl less
      | inr more ↦ elim (before_or_behind n from) [
        | inl less ↦ inl less
        | inr most ↦ inr (omega (arith, most, none))
      ]
    ]);
  }
]

-- ---- the signals

or_cases : (a b : Bool) → (a || b) ≡ true → (a ≡ true) ⊎ (b ≡ true)
or_cases true b is = inl refl
or_cases false b is = inr is

and_cases : (a b : Bool) → (a && b) ≡ true → (a ≡ true) × (b ≡ true)
and_cases true b is = (refl, is)
and_cases false b is = absurd (let no : false ≡ true = is in cc)

not_cases : (a : Bool) → not a ≡ true → a ≡ false
not_cases true is = absurd (let no : false ≡ true = is in cc)
not_cases false is = refl

not_below : (a b : ℕ) → b ≤ a → not (nat_lt a b) ≡ true
not_below a b most = by (nat_lt a b) refl where
  by : (c : Bool) → nat_lt a b ≡ c → not (nat_lt a b) ≡ true
  by true is = absurd (let less = ltb-true a b is in omega (arith, less, most))
  by false is = ap not is

module _ (own : Own) (signal : ℕ) where
  -- it is one of the first ones, or between the ends
  abbrev pub StandsAmong : Type 0
  StandsAmong = (signal < own.head) ⊎ ((own.first ≤ signal) × (signal < own.end))

  pub own_stands : is_own own signal ≡ true → StandsAmong
  own_stands is = elim (or_cases (nat_lt signal own.head) (not (nat_lt signal own.first) && nat_lt signal own.end) is) [
    | inl head ↦ inl (ltb-true signal own.head head)
    | inr rest ↦
        let (from, to) = and_cases (not (nat_lt signal own.first)) (nat_lt signal own.end) rest in
        inr (ltb-false signal own.first (not_cases (nat_lt signal own.first) from), ltb-true signal own.end to)
  ]

  pub stands_own : StandsAmong → is_own own signal ≡ true
  stands_own (inl head) = ap (λ b. b || (not (nat_lt signal own.first) && nat_lt signal own.end)) (lt-ltb signal own.head head)
  stands_own (inr (from, to)) =
      ap (λ b. nat_lt signal own.head || (b && nat_lt signal own.end)) (not_below signal own.first from)
      ∙ ap (λ b. nat_lt signal own.head || b) (lt-ltb signal own.end to)
      ∙ either (nat_lt signal own.head) where
        either : (b : Bool) → (b || true) ≡ true
        either true = refl
        either false = refl

-- signals from so many on are none of those
pub not_own : (own : Own) (count signal : ℕ) → AreOwnBelow count own → count ≤ signal → is_own own signal ≡ false
not_own own count signal (head, end) most = by (is_own own signal) refl where
  by : (b : Bool) → is_own own signal ≡ b → is_own own signal ≡ false
  by false is = is
  by true is = absurd (elim (own_stands own signal is) [
    | inl before ↦ omega (arith, before, head, most)
    | inr (from, to) ↦ omega (arith, to, end, most)
  ])

module _ (a : ActorMachine) (signal : ℕ) where
  pub kept_is : is_kept a signal ≡ true → (signal < length a.machine.cells.items) × (signal < length a.last.items) × (is_own a.own signal ≡ true)
  kept_is is =
      let (here, own) = and_cases (nat_lt signal (length a.machine.cells.items) && nat_lt signal (length a.last.items)) (is_own a.own signal) is in
      let (cells, last) = and_cases (nat_lt signal (length a.machine.cells.items)) (nat_lt signal (length a.last.items)) here in
      (ltb-true signal (length a.machine.cells.items) cells, ltb-true signal (length a.last.items) last, own)

  pub is_kept_of : signal < length a.machine.cells.items → signal < length a.last.items → is_own a.own signal ≡ true → is_kept a signal ≡ true
  is_kept_of cells last own =
      ap (λ b. (b && nat_lt signal (length a.last.items)) && is_own a.own signal) (lt-ltb signal (length a.machine.cells.items) cells)
      ∙ ap (λ b. b && is_own a.own signal) (lt-ltb signal (length a.last.items) last) ∙ own

-- cells that are kept between two ends, and then between two others behind them
module _ (old : ActorMachine) (head first end : ℕ) (after kept after_all kept_all : List ℤ)
    (one : AreKept 0 head old.machine.cells.items old.last.items after kept) (two : AreKept first end after kept after_all kept_all)
    (head_within : head ≤ old.own.head) (head_cells : head ≤ length old.machine.cells.items) (head_last : head ≤ length old.last.items)
    (head_all : (n : ℕ) → n < old.own.head → n < length old.machine.cells.items → n < length old.last.items → n < head)
    (first_head : old.own.head ≤ first) (first_first : old.own.first ≤ first) (first_least : (n : ℕ) → old.own.head ≤ n → old.own.first ≤ n → first ≤ n)
    (end_within : end ≤ old.own.end) (end_cells : end ≤ length old.machine.cells.items) (end_last : end ≤ length old.last.items)
    (end_all : (n : ℕ) → n < old.own.end → n < length old.machine.cells.items → n < length old.last.items → n < end) where
  abbrev IsKeptAs : ℕ → Type 0
  IsKeptAs signal = (cell after_all signal ≡ pos 0) × (cell kept_all signal ≡ cell old.machine.cells.items signal)

  by_head : (signal : ℕ) → signal < head → IsKeptAs signal
  by_head signal before =
      let (zero, as_was) = one.inside signal (omega arith) before in
      let (same, kept_same) = two.outside signal (inl (omega (arith, before, head_within, first_head))) in
      (same ∙ zero, kept_same ∙ as_was)

  by_end : (signal : ℕ) → old.own.head ≤ signal → old.own.first ≤ signal → signal < end → IsKeptAs signal
  by_end signal behind from before =
      let (same, kept_same) = one.outside signal (inr (omega (arith, head_within, behind))) in
      let (zero, as_was) = two.inside signal (first_least signal behind from) before in
      (zero, as_was ∙ same)

  own_kept : (signal : ℕ) → is_kept old signal ≡ true → IsKeptAs signal
  own_kept signal is =
      let (cells, last, own) = kept_is old signal is in
      elim (before_or_behind signal old.own.head) [
        | inl below ↦ by_head signal (head_all signal below cells last)
        | inr past ↦ elim (own_stands old.own signal own) [
          | inl before ↦ absurd (omega (arith, before, past))
          | inr (from, to) ↦ by_end signal past from (end_all signal to cells last)
        ]
      ]

  others_kept : (signal : ℕ) → is_kept old signal ≡ false → cell after_all signal ≡ cell old.machine.cells.items signal
  others_kept signal is = (two.outside signal outside_two).0 ∙ (one.outside signal (inr outside_one)).0 where
    none : signal < length old.machine.cells.items → signal < length old.last.items → StandsAmong old.own signal → ⊥
    none cells last stands = let yes = is_kept_of old signal cells last (stands_own old.own signal stands) in cc

    outside_one : head ≤ signal
    outside_one = elim (before_or_behind signal head) [
      | inl less ↦ absurd (none (omega (arith, less, head_cells)) (omega (arith, less, head_last)) (inl (omega (arith, less, head_within))))
      | inr past ↦ past
    ]

    outside_two : (signal < first) ⊎ (end ≤ signal)
    outside_two = elim (before_or_behind signal first) [
      | inl less ↦ inl less
      | inr from ↦ elim (before_or_behind signal end) [
        | inl less ↦ absurd (none (omega (arith, less, end_cells)) (omega (arith, less, end_last)) (inr (omega (arith, from, first_first), omega (arith, less, end_within))))
        | inr past ↦ inr past
      ]
    ]

  pub keeps_own : (new : ActorMachine) → new.machine.cells.items ≡ after_all → new.last.items ≡ kept_all → KeepsOwn old new
  keeps_own new is_after is_kept_all = record {
    count = ap length is_after ∙ two.count ∙ one.count;
    kept_count = ap length is_kept_all ∙ two.kept_count ∙ one.kept_count;
    own = λ signal is. let (zero, as_was) = own_kept signal is in
        (ap (λ (xs : List ℤ). cell xs signal) is_after ∙ zero, ap (λ (xs : List ℤ). cell xs signal) is_kept_all ∙ as_was);
    others = λ signal is. ap (λ (xs : List ℤ). cell xs signal) is_after ∙ others_kept signal is;
  }

-- ---- the next instant

module _ (old mid : ActorMachine) (keeps : KeepsOwn old mid) where
  -- in the next instant, with the truths of this one
  abbrev pub next_with : ActorMachine → ActorMachine
  next_with new = record old { machine = record old.machine { instant = old.machine.instant + 1; cells = mid.machine.cells }; last = mid.last; truths = new.truths }

  same_kept : (new : ActorMachine) (signal : ℕ) → is_kept (next_with new) signal ≡ is_kept old signal
  same_kept new signal =
      ap (λ n. (nat_lt signal n && nat_lt signal (length mid.last.items)) && is_own old.own signal) keeps.count
      ∙ ap (λ n. (nat_lt signal (length old.machine.cells.items) && nat_lt signal n) && is_own old.own signal) keeps.kept_count

  -- what the cells say that were kept
  abbrev Said : ℤ → ℕ → Seen
  Said value signal = if nat_lt signal old.machine.signals then stamped old.machine.instant (slice_get old.machine.stamps.items signal) value else None

  pub last_kept : (new : ActorMachine) → last_in (next_with new) ≡ seen_in old
  last_kept new = λ j signal. at signal j where
    instant : old.machine.instant + 1 - 1 ≡ old.machine.instant
    instant = omega arith

    values : (signal : ℕ) (b : Bool) → is_kept old signal ≡ b → cell (if b then mid.last.items else mid.machine.cells.items) signal ≡ cell old.machine.cells.items signal
    values signal true is = (keeps.own signal is).1
    values signal false is = keeps.others signal is

    at : (signal : ℕ) → last_in (next_with new) signal ≡ seen_in old signal
    at signal =
        ap (λ b. registers_in old.machine.signals (old.machine.instant + 1 - 1)
        (cells_of (if b then mid.last.items else mid.machine.cells.items) old.machine.stamps.items old.machine.taken.items) signal) (same_kept new signal)
        ∙ ap (λ n. registers_in old.machine.signals n
        (cells_of (if is_kept old signal then mid.last.items else mid.machine.cells.items) old.machine.stamps.items old.machine.taken.items) signal) instant
        ∙ ap (λ v. Said v signal) (values signal (is_kept old signal) refl)

  -- the cells of all signals hold 0 then
  pub begins_own : (plan : PlanView) (k : ℕ) (flows : List (List ℤ)) → HasActor plan k flows old → Begins old.machine.signals old.machine.cells.items mid.machine.cells.items
  begins_own plan k flows is = record {
    count = keeps.count;
    zero = λ signal below. zero signal below (is_kept old signal) refl;
    others = λ number behind. keeps.others number (ap (λ b. ◌&&◌ (nat_lt number (length old.machine.cells.items) && nat_lt number (length old.last.items)) b) (not_own old.own (length plan.kernel.signals) number is.below (let s = is.machine.signals in omega (arith, behind, s))) ∙ and_false (nat_lt number (length old.machine.cells.items) && nat_lt number (length old.last.items)));
  } where
    and_false : (b : Bool) → (b && false) ≡ false
    and_false true = refl
    and_false false = refl

    other : (signal : ℕ) → signal < old.machine.signals → is_kept old signal ≡ false → is_own old.own signal ≡ false
    other signal below none = by (is_own old.own signal) refl where
      by : (b : Bool) → is_own old.own signal ≡ b → is_own old.own signal ≡ false
      by false own = own
      by true own =
          let s = is.machine.signals in let r = is.room in let l = is.last in let m = is.machine.cells in
          let clash : false ≡ true = sym none ∙ is_kept_of old signal (omega (arith, below, s, r, m)) (omega (arith, below, s, r, l)) own in cc

    zero : (signal : ℕ) → signal < old.machine.signals → (b : Bool) → is_kept old signal ≡ b → cell mid.machine.cells.items signal ≡ pos 0
    zero signal below true kept = (keeps.own signal kept).0
    zero signal below false kept = keeps.others signal kept ∙ is.absent signal below (is.others signal (other signal below kept))

-- ---- one more signal

-- a machine of which more signals are said to be written
pub wider : (plan : PlanView) (k : ℕ) (flows : List (List ℤ)) (a : ActorMachine) → HasActor plan k flows a → (x : SigId) (own : Own)
    → ((signal : ℕ) → is_own a.own signal ≡ true → is_own own signal ≡ true) → ((count : ℕ) → x.0 < count → AreOwnBelow count a.own → AreOwnBelow count own)
    → x.0 < length plan.kernel.signals → HasActor plan k flows (record a { own = own })
wider plan k flows a is x own more below here = record {
  accepted = is.accepted;
  constants = is.constants;
  room = is.room;
  machine = is.machine;
  absent = is.absent;
  last = is.last;
  below = below (length plan.kernel.signals) here is.below;
  writes = λ place instruction there less. more instruction.target (is.writes place instruction there less);
  others = λ signal none. is.others signal (by signal none (is_own a.own signal) refl);
  inputs = is.inputs;
  instructions = is.instructions;
  count = is.count;
  each = is.each;
  table = is.table;
  next = is.next;
  told = is.told;
} where
  by : (signal : ℕ) → is_own own signal ≡ false → (b : Bool) → is_own a.own signal ≡ b → is_own a.own signal ≡ false
  by signal none false is = is
  by signal none true is = absurd (let clash : false ≡ true = sym none ∙ more signal is in cc)

-- ---- the signals that instructions write

-- those that the first ones write, so many, are among these
abbrev pub WritesOwnUpTo : Own → ℕ → List Instruction → ℕ → Type 0
WritesOwnUpTo own signals instructions count = (place : ℕ) (instruction : Instruction) → place < count → slice_get instructions place ≡ Some instruction
    → instruction.target < signals → is_own own instruction.target ≡ true

pub writes_none : (own : Own) (signals : ℕ) (instructions : List Instruction) → WritesOwnUpTo own signals instructions 0
writes_none own signals instructions place instruction before = absurd (omega (arith, before))

pub writes_one_more : (own more : Own) (signals : ℕ) (instructions : List Instruction) (count : ℕ) (last : Instruction) → WritesOwnUpTo own signals instructions count
    → slice_get instructions count ≡ Some last → ((x : ℕ) → is_own own x ≡ true → is_own more x ≡ true) → (last.target < signals → is_own more last.target ≡ true)
    → WritesOwnUpTo more signals instructions (count + 1)
writes_one_more own more signals instructions count last writes at others here place instruction before there below = elim (eqb_tells place count) [
  | inl same ↦
      let one : instruction ≡ last = same_Some instruction last (sym there ∙ ap (slice_get instructions) same.1 ∙ at) in
      subst (λ (i : Instruction). i.target < signals → is_own more i.target ≡ true) (sym one) here below
  | inr other ↦ others instruction.target (writes place instruction (let apart = other.1 in omega (arith, before, apart)) there below)
]

pub writes_all : (own : Own) (signals : ℕ) (instructions : List Instruction) (count : ℕ) → length instructions ≤ count → WritesOwnUpTo own signals instructions count → WritesOwn own signals instructions
writes_all own signals instructions count all writes place instruction there =
    writes place instruction (let within = get_within instructions place instruction there in omega (arith, within, all)) there
