-- What is kept of kinds: registers, memories and flows have values of their kinds, whatever an operation does.
pub use Rattle.std.proofs.lemmas.Option.{same_Some}
use Rattle.sig_exec.proofs.Common.{◌≡◌, ◌<◌, inr, ℕ, zero, suc, ℤ, Bool, true, false, List, [], ◌∷◌, length, map, replicate, Option, None, Some, refl, sym, ap, subst, arith, IsTrue, slice_get, slice_index_or, slice_set, ⊤, ◌&&◌, AllByRecursion, AllPass, list_all, list_all-from_AllPass, AreOfKinds, Bounded, Instant, IsOfKind, IsValue, Seen, seen_at, Kind, Boolean, Event, Integer, is_kind, kind_fits, value_is, value_of, IsMemory, accepts, accepts_value, is_same, kind_at, memory_at, sort_of, ImageMemory, ImageSignal}

pub none_is : {A B : Type 0} (a : A) → None ≡ Some a → B
none_is {A} {B} a e = absurd (let f : None ≡ Some a = e in cc)

pub no : {B : Type 0} → false ≡ true → B
no {B} e = absurd (let f : false ≡ true = e in cc)

abbrev pub kinds_of : List ImageSignal → List Kind
kinds_of signals = map (λ signal. signal.kind) signals

-- ---- registers

abbrev pub Kinded : List ImageSignal → Instant → Type 0
Kinded signals registers = AreOfKinds Bounded (kinds_of signals) registers

-- what is there is of its kind
pub register_kind : (signals : List ImageSignal) (registers : Instant) (x : ℕ) (kind : Kind) (v : ℤ) → Kinded signals registers → kind_at signals x ≡ Some kind → seen_at registers x ≡ Some v
    → IsValue Bounded kind v
register_kind [] registers x kind v are is there = none_is kind is
register_kind (signal ∷ signals) [] x kind v are is there = absurd are
register_kind (signal ∷ signals) (seen ∷ registers) zero kind v are is there =
    subst (λ (k : Kind). IsValue Bounded k v) (same_Some signal.kind kind is) (subst (λ (s : Seen). IsOfKind Bounded signal.kind s) there are.0)
register_kind (signal ∷ signals) (seen ∷ registers) (suc x) kind v are is there = register_kind signals registers x kind v are.1 is there

pub register_set : (signals : List ImageSignal) (registers : Instant) (x : ℕ) (kind : Kind) (v : ℤ) → Kinded signals registers → kind_at signals x ≡ Some kind → IsValue Bounded kind v
    → Kinded signals (slice_set registers x (Some v))
register_set [] registers x kind v are is value = none_is kind is
register_set (signal ∷ signals) [] x kind v are is value = absurd are
register_set (signal ∷ signals) (seen ∷ registers) zero kind v are is value = (subst (λ (k : Kind). IsValue Bounded k v) (sym (same_Some signal.kind kind is)) value, are.1)
register_set (signal ∷ signals) (seen ∷ registers) (suc x) kind v are is value = (are.0, register_set signals registers x kind v are.1 is value)

pub none_kinded : (signals : List ImageSignal) → Kinded signals (replicate (length signals) None)
none_kinded [] = tt
none_kinded (signal ∷ signals) = (tt, none_kinded signals)

-- a signal has a kind
pub kind_there : (signals : List ImageSignal) (x : ℕ) → x < length signals → (kind : Kind) × (kind_at signals x ≡ Some kind)
kind_there [] x within = absurd (omega (arith, within))
kind_there (signal ∷ signals) zero within = (signal.kind, refl)
kind_there (signal ∷ signals) (suc x) within = kind_there signals x (omega (arith, within))

-- ---- memories

abbrev pub Remember : List ImageMemory → List ℤ → Type 0
Remember [] values = ⊤
Remember (memory ∷ memories) [] = ⊤
Remember (memory ∷ memories) (v ∷ values) = IsValue Bounded memory.kind v × Remember memories values

pub memory_kind : (memories : List ImageMemory) (values : List ℤ) (m : ℕ) (kind : Kind) (v : ℤ) → Remember memories values → memory_at memories m ≡ Some kind → slice_get values m ≡ Some v
    → IsValue Bounded kind v
memory_kind [] values m kind v are is there = none_is kind is
memory_kind (memory ∷ memories) [] m kind v are is there = none_is v there
memory_kind (memory ∷ memories) (w ∷ values) zero kind v are is there =
    subst (λ (k : Kind). IsValue Bounded k v) (same_Some memory.kind kind is) (subst (λ (u : ℤ). IsValue Bounded memory.kind u) (same_Some w v there) are.0)
memory_kind (memory ∷ memories) (w ∷ values) (suc m) kind v are is there = memory_kind memories values m kind v are.1 is there

pub memory_set : (memories : List ImageMemory) (values : List ℤ) (m : ℕ) (kind : Kind) (v : ℤ) → Remember memories values → memory_at memories m ≡ Some kind → IsValue Bounded kind v
    → Remember memories (slice_set values m v)
memory_set [] values m kind v are is value = none_is kind is
memory_set (memory ∷ memories) [] m kind v are is value = tt
memory_set (memory ∷ memories) (w ∷ values) zero kind v are is value = (subst (λ (k : Kind). IsValue Bounded k v) (sym (same_Some memory.kind kind is)) value, are.1)
memory_set (memory ∷ memories) (w ∷ values) (suc m) kind v are is value = (are.0, memory_set memories values m kind v are.1 is value)

pub begin : (memories : List ImageMemory) → ((m : ℕ) (memory : ImageMemory) → slice_get memories m ≡ Some memory → IsMemory memory) → Remember memories (map (λ (memory : ImageMemory). memory.init) memories)
begin [] right = tt
begin (memory ∷ memories) right = (value_of memory.kind memory.init (right 0 memory refl).init, begin memories (λ m other is. right (suc m) other is))

-- ---- flows

abbrev pub AreValues : Kind → List ℤ → Type 0
AreValues kind values = AllByRecursion (IsValue Bounded kind) values

abbrev pub Feed : List ImageSignal → List (List ℤ) → Type 0
Feed [] flows = ⊤
Feed (signal ∷ signals) [] = ⊤
Feed (signal ∷ signals) (flow ∷ flows) = AreValues signal.kind flow × Feed signals flows

pub flow_kind : (signals : List ImageSignal) (flows : List (List ℤ)) (x : ℕ) (kind : Kind) (flow : List ℤ) → Feed signals flows → kind_at signals x ≡ Some kind → slice_get flows x ≡ Some flow
    → AreValues kind flow
flow_kind [] flows x kind flow are is there = none_is kind is
flow_kind (signal ∷ signals) [] x kind flow are is there = none_is flow there
flow_kind (signal ∷ signals) (first ∷ flows) zero kind flow are is there =
    subst (λ (k : Kind). AreValues k flow) (same_Some signal.kind kind is) (subst (λ (f : List ℤ). AreValues signal.kind f) (same_Some first flow there) are.0)
flow_kind (signal ∷ signals) (first ∷ flows) (suc x) kind flow are is there = flow_kind signals flows x kind flow are.1 is there

pub flow_set : (signals : List ImageSignal) (flows : List (List ℤ)) (x : ℕ) (kind : Kind) (flow : List ℤ) → Feed signals flows → kind_at signals x ≡ Some kind → AreValues kind flow
    → Feed signals (slice_set flows x flow)
flow_set [] flows x kind flow are is values = none_is kind is
flow_set (signal ∷ signals) [] x kind flow are is values = tt
flow_set (signal ∷ signals) (first ∷ flows) zero kind flow are is values = (subst (λ (k : Kind). AreValues k flow) (sym (same_Some signal.kind kind is)) values, are.1)
flow_set (signal ∷ signals) (first ∷ flows) (suc x) kind flow are is values = (are.0, flow_set signals flows x kind flow are.1 is values)

pub values_of : (kind : Kind) (values : List ℤ) → list_all (value_is kind) values ≡ true → AreValues kind values
values_of kind [] all = tt
values_of kind (v ∷ values) all = let parts = both (value_is kind v) (list_all (value_is kind) values) all in (value_of kind v parts.0, values_of kind values parts.1) where
  both : (a b : Bool) → (a && b) ≡ true → (a ≡ true) × (b ≡ true)
  both true b given = (refl, given)
  both false b given = no given

pub fed : (signals : List ImageSignal) (flows : List (List ℤ)) → ((k : ℕ) (signal : ImageSignal) → k < length flows → slice_get signals k ≡ Some signal → AllPass (value_is signal.kind) (slice_index_or flows k []))
    → Feed signals flows
fed [] flows pass = tt
fed (signal ∷ signals) [] pass = tt
fed (signal ∷ signals) (flow ∷ flows) pass =
    (values_of signal.kind flow (list_all-from_AllPass (value_is signal.kind) flow (pass 0 signal (omega arith) refl)), fed signals flows (λ k other within is. pass (suc k) other (omega (arith, within)) is))

-- ---- what a signal or a memory may be given

-- a value that a signal of one kind may have is one of the other
abbrev pub Goes : Kind → Kind → Type 0
Goes from to = (v : ℤ) → IsValue Bounded from v → IsValue Bounded to v

pub goes : (to from : Kind) → kind_fits (sort_of to) (Some from) ≡ true → Goes from to
goes Integer Integer fits = λ v value. value
goes Boolean Boolean fits = λ v value. value
goes Boolean Event fits = λ v value. inr value
goes Event Event fits = λ v value. value
goes to from fits = no fits

pub taken : (to : Kind) (from : Option Kind) → kind_fits (sort_of to) from ≡ true → (kind : Kind) × (from ≡ Some kind) × Goes kind to
taken to None fits = no fits
taken to (Some from) fits = (from, refl, goes to from fits)

pub accepted : (target source : Option Kind) → IsTrue (accepts target source) → (to from : Kind) × (target ≡ Some to) × (source ≡ Some from) × Goes from to
accepted None source fits = no fits
accepted (Some to) source fits = let (from, is, all) = taken to source fits in (to, from, refl, is, all)

pub given : (target : Option Kind) (v : ℤ) → IsTrue (accepts_value target v) → (kind : Kind) × (target ≡ Some kind) × IsValue Bounded kind v
given None v fits = no fits
given (Some kind) v fits = (kind, refl, value_of kind v fits)

pub one_kind : (a b : Kind) → is_kind a b ≡ true → a ≡ b
one_kind Integer Integer same = refl
one_kind Boolean Boolean same = refl
one_kind Event Event same = refl
one_kind a b same = no same

pub alike : (target source : Option Kind) → IsTrue (is_same target source) → (kind : Kind) × (target ≡ Some kind) × (source ≡ Some kind)
alike None source same = no same
alike (Some a) None same = no same
alike (Some a) (Some b) same = (a, refl, ap Some (sym (one_kind a b same)))
