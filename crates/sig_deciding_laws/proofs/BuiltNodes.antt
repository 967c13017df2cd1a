-- A list of nodes that holds some functions: they are built one after another, each by its two sides.
use Rattle.sig_deciding_laws.proofs.Common.{◌≡◌, ◌<◌, ◌≤◌, ◌+◌, inl, inr, ℕ, zero, suc, Bool, true, false, cond, List, [], ◌∷◌, ◌++◌, length, refl, sym, ap, ◌∙◌, subst, arith, Contains, append-nil, append_assoc, Some, slice_get, if◌then◌else◌, cases_eq, StartsFrom, truth_of, with_truth, Holds, IsChoice, IsReduced, IsRefOf, diagram, test, Node, Ref, same_node, IsRefOf-constant, IsRefOf-same, starts_false, starts_true, Holds-append, IsChoice-node, IsChoice-same, IsNodeAt-next, IsReduced-push, starts_on, test-append, truth_of-with_other, truth_of-with_same, Guard, contains_cons, contains_head, contains_later, contains_none, slice_get_within, get_last, map_dec, dec_both, dec_number, dec_option, searched_below}
use Rattle.sig_deciding_laws.proofs.ActorCodes.{dec_reference}
use Rattle.sig_deciding_laws.proofs.ClockFunctionsOfKernel.{Sees}

-- ---- functions and their sides

-- a function sees only k variables from v on
abbrev SeesOnly : ℕ → ℕ → Guard → Type 0
SeesOnly v k f = (p q : List Bool) → ((u : ℕ) → v ≤ u → u < v + k → truth_of p u ≡ truth_of q u) → f p ≡ f q

abbrev side : Guard → ℕ → Bool → Guard
side f v x p = f (with_truth p v x)

side_sees : (v k : ℕ) (f : Guard) (x : Bool) → SeesOnly v (suc k) f → SeesOnly (suc v) k (side f v x)
side_sees v k f x sees p q agree = sees (with_truth p v x) (with_truth q v x) (λ u least less. elim (cases_eq u v) [
  | inl same ↦ subst (λ w. truth_of (with_truth p v x) w ≡ truth_of (with_truth q v x) w) (sym same) (truth_of-with_same p v x ∙ sym (truth_of-with_same q v x))
  | inr apart ↦ truth_of-with_other p v x u apart ∙ agree u (omega (arith, least, apart)) (omega (arith, less)) ∙ sym (truth_of-with_other q v x u apart)
])

-- set to the truth that it has, a variable makes no difference
side_same : (v k : ℕ) (f : Guard) → SeesOnly v k f → (p : List Bool) (x : Bool) → truth_of p v ≡ x → side f v x p ≡ f p
side_same v k f sees p x is = sees (with_truth p v x) p (λ u least less. elim (cases_eq u v) [
  | inl same ↦ subst (λ w. truth_of (with_truth p v x) w ≡ truth_of p w) (sym same) (truth_of-with_same p v x ∙ sym is)
  | inr apart ↦ truth_of-with_other p v x u apart
])

-- ---- a list of nodes that grows

abbrev pub node_ref : ℕ → Ref
node_ref i = record { number = i + 2 }

-- nodes were added until a function is held
record Built (nodes : List Node) (v : ℕ) (f : Guard) : Type 0 where
  new : List Node
  more : List Node
  grows : new ≡ nodes ++ more
  reduced : IsReduced new
  r : Ref
  is : IsRefOf new f r
  starts : StartsFrom v (diagram new r)

kept_ref : (old new more : List Node) → new ≡ old ++ more → (f : Guard) (r : Ref) → IsRefOf old f r → IsRefOf new f r
kept_ref old new more grows f r is =
    subst (λ (nodes : List Node). IsRefOf nodes f r) (sym grows)
    (record { holds = Holds-append old more r is.holds; function = λ ts. test-append old more r is.holds ts ∙ is.function ts })

kept_starts : (old new more : List Node) → new ≡ old ++ more → (b : ℕ) (r : Ref) → Holds old r → StartsFrom b (diagram old r) → StartsFrom b (diagram new r)
kept_starts old new more grows b r held starts = subst (λ (nodes : List Node). StartsFrom b (diagram nodes r)) (sym grows) (starts_on old more b r held starts)

constant_starts : (nodes : List Node) (b : Bool) (v : ℕ) → StartsFrom v (diagram nodes (record { number = cond b 1 0 }))
constant_starts nodes true v = starts_true nodes (record { number = 1 }) refl v
constant_starts nodes false v = starts_false nodes (record { number = 0 }) refl v

built_constant : (nodes : List Node) → IsReduced nodes → (v : ℕ) (f : Guard) → SeesOnly v 0 f → Built nodes v f
built_constant nodes reduced v f sees = record {
  new = nodes;
  more = [];
  grows = sym (append-nil nodes);
  reduced = reduced;
  r = record { number = cond (f []) 1 0 };
  is = IsRefOf-same nodes (λ ts. f []) f (λ ts. sees [] ts (λ u least less. absurd (omega (arith, least, less)))) (record { number = cond (f []) 1 0 }) (IsRefOf-constant nodes (f []) (record { number = cond (f []) 1 0 }) refl);
  starts = constant_starts nodes (f []) v;
}

dec_node : (m n : Node) → Dec (m ≡ n)
dec_node m n =
    map_dec (λ parts. same_node m n parts.0 parts.1.0 parts.1.1) (λ same. (ap (λ (k : Node). k.variable) same, (ap (λ (k : Node). k.low) same, ap (λ (k : Node). k.high) same)))
    (dec_both (dec_number m.variable n.variable) (dec_both (dec_reference m.low n.low) (dec_reference m.high n.high)))

module _ (nodes : List Node) (v k : ℕ) (f : Guard) (sees : SeesOnly v (suc k) f) (low : Built nodes (suc v) (side f v false)) (high : Built low.new (suc v) (side f v true)) where
  abbrev mid : List Node
  mid = high.new

  low_is : IsRefOf mid (side f v false) low.r
  low_is = kept_ref low.new mid high.more high.grows (side f v false) low.r low.is

  low_starts : StartsFrom (suc v) (diagram mid low.r)
  low_starts = kept_starts low.new mid high.more high.grows (suc v) low.r low.is.holds low.starts

  mid_grows : mid ≡ nodes ++ (low.more ++ high.more)
  mid_grows = high.grows ∙ ap (λ (xs : List Node). xs ++ high.more) low.grows ∙ append_assoc nodes low.more high.more

  from_choice : (new : List Node) (r : Ref) → IsChoice mid new v low.r high.r r → IsRefOf new f r
  from_choice new r choice = record { holds = choice.holds; function = λ ts. choice.function ts ∙ by ts (truth_of ts v) refl } where
    by : (ts : List Bool) (b : Bool) → truth_of ts v ≡ b → (if truth_of ts v then test mid high.r ts else test mid low.r ts) ≡ f ts
    by ts true e = ap (λ c. if c then test mid high.r ts else test mid low.r ts) e ∙ high.is.function ts ∙ side_same v (suc k) f sees ts true e
    by ts false e = ap (λ c. if c then test mid high.r ts else test mid low.r ts) e ∙ low_is.function ts ∙ side_same v (suc k) f sees ts false e

  built_same : low.r ≡ high.r → Built nodes v f
  built_same same =
      let choice = IsChoice-same mid v low.r high.r low_is.holds same low_starts in
      record { new = mid; more = low.more ++ high.more; grows = mid_grows; reduced = high.reduced; r = low.r; is = from_choice mid low.r choice; starts = choice.starts }

  abbrev chosen : Node
  chosen = record { variable = v; low = low.r; high = high.r }

  built_old : (i : ℕ) → slice_get mid i ≡ Some chosen → Built nodes v f
  built_old i at =
      let whole : mid ++ [] ≡ mid = append-nil mid in
      let choice : IsChoice mid mid v low.r high.r (node_ref i) =
      subst (λ (xs : List Node). IsChoice mid xs v low.r high.r (node_ref i)) whole
      (IsChoice-node mid [] i chosen (node_ref i) (subst IsReduced (sym whole) high.reduced) low_is.holds high.is.holds (ap (λ (xs : List Node). slice_get xs i) whole ∙ at) refl) in
      record { new = mid; more = low.more ++ high.more; grows = mid_grows; reduced = high.reduced; r = node_ref i; is = from_choice mid (node_ref i) choice; starts = choice.starts }

  built_new : (low.r ≡ high.r → ⊥) → ((i : ℕ) → slice_get mid i ≡ Some chosen → ⊥) → Built nodes v f
  built_new apart none = record {
    new = mid ++ chosen ∷ [];
    more = (low.more ++ high.more) ++ chosen ∷ [];
    grows = ap (λ (xs : List Node). xs ++ chosen ∷ []) mid_grows ∙ append_assoc nodes (low.more ++ high.more) (chosen ∷ []);
    reduced = pushed;
    r = node_ref (length mid);
    is = new_is;
    starts = choice.starts;
  } where
    pushed : IsReduced (mid ++ chosen ∷ [])
    pushed = IsReduced-push mid chosen high.reduced (IsNodeAt-next mid chosen high.reduced low_is.holds high.is.holds apart low_starts high.starts) none

    choice : IsChoice mid (mid ++ chosen ∷ []) v low.r high.r (node_ref (length mid))
    choice = IsChoice-node mid (chosen ∷ []) (length mid) chosen (node_ref (length mid)) pushed low_is.holds high.is.holds (get_last mid chosen) refl

    new_is : IsRefOf (mid ++ chosen ∷ []) f (node_ref (length mid))
    new_is = from_choice (mid ++ chosen ∷ []) (node_ref (length mid)) choice

  built_choice : Built nodes v f
  built_choice = at (dec_reference low.r high.r) (searched_below (length mid) (λ i. slice_get mid i ≡ Some chosen) (λ i _. dec_option dec_node (slice_get mid i) (Some chosen))) where
    at : Dec (low.r ≡ high.r) → Dec ((i : ℕ) × (i < length mid) × (slice_get mid i ≡ Some chosen)) → Built nodes v f
    at (yes same) found = built_same same
    at (no apart) (yes found) = built_old found.0 found.2
    at (no apart) (no none) = built_new apart (λ i is. none (i, slice_get_within mid i chosen is, is))

built : (k v : ℕ) (f : Guard) → SeesOnly v k f → (nodes : List Node) → IsReduced nodes → Built nodes v f
built zero v f sees nodes reduced = built_constant nodes reduced v f sees
built (suc k) v f sees nodes reduced =
    let low = built k (suc v) (side f v false) (side_sees v k f false sees) nodes reduced in
    built_choice nodes v k f sees low (built k (suc v) (side f v true) (side_sees v k f true sees) low.new low.reduced)

-- ---- all of the functions

-- reduced nodes hold each of some functions
pub record HoldsEach (fs : List Guard) (nodes : List Node) : Type 0 where
  pub reduced : IsReduced nodes
  pub held : (f : Guard) → Contains fs f → (r : Ref) × IsRefOf nodes f r

none_reduced : IsReduced []
none_reduced = record { each = λ i n is. cc; once = λ i j n at_i at_j. cc }

abbrev Held : List Guard → Type 0
Held fs = (nodes : List Node) × HoldsEach fs nodes

pub nodes_exist : (n : ℕ) (fs : List Guard) → ((f : Guard) → Contains fs f → Sees n f) → (nodes : List Node) × HoldsEach fs nodes
nodes_exist n [] sees = ([], record { reduced = none_reduced; held = λ f there. absurd (contains_none f there) })
nodes_exist n (f ∷ fs) sees = at (nodes_exist n fs (λ g there. sees g (contains_later f g fs there))) where
  only : SeesOnly 0 n f
  only p q agree = sees f (contains_head f fs) p q (λ v less. agree v (omega arith) (omega (arith, less)))

  at : Held fs → Held (f ∷ fs)
  at rest = with_more (built n 0 f only rest.0 rest.1.reduced) where
    with_more : Built rest.0 0 f → Held (f ∷ fs)
    with_more b = (
      b.new,
      record {
        reduced = b.reduced;
        held = λ g there. elim (contains_cons f g fs there) [
          | inl same ↦ (b.r, subst (λ (h : Guard). IsRefOf b.new h b.r) (sym same) b.is)
          | inr later ↦ (let found = rest.1.held g later in (found.0, kept_ref rest.0 b.new b.more b.grows g found.0 found.1))
        ];
      },
    )
