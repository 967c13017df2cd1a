-- Lemmas on flows that are followed by one value for ever.
use Rattle.sig_meaning_laws.proofs.Common.{◌≡◌, ◌≤◌, ◌<◌, ◌+◌, ◌++◌, ℕ, zero, suc, ℤ, pos, List, [], ◌∷◌, length, get_or, map, refl, ap, sym, subst, ◌∙◌, arith, None, Some, Option, option_to_list, replicate, slice_get, ⊤, zip, append-nil, length-append, Instant, Seen, Trace, Fits, IsPrefixOf, flow_of, seen_at, Signal, flow_append, inputs_of, Kernel, extended, extended_by, filler}

-- values that are those of a flow, and then one value for ever
abbrev pub Continues : List ℤ → ℤ → List ℤ → Type 0
Continues flow last [] = ⊤
Continues [] last (v ∷ values) = (v ≡ last) × Continues [] last values
Continues (w ∷ flow) last (v ∷ values) = (v ≡ w) × Continues flow last values

pub from_prefix : (flow : List ℤ) (last : ℤ) (count : ℕ) (values : List ℤ) → IsPrefixOf values (flow ++ replicate count last) → Continues flow last values
from_prefix flow last count [] begins = tt
from_prefix [] last zero (v ∷ values) begins = absurd (let e = begins.1 in cc)
from_prefix [] last (suc n) (v ∷ values) begins =
    let e : last ∷ replicate n last ≡ v ∷ (values ++ begins.0) = begins.1 in
    (cc, from_prefix [] last n values (begins.0, cc))
from_prefix (w ∷ flow) last count (v ∷ values) begins =
    let e : w ∷ (flow ++ replicate count last) ≡ v ∷ (values ++ begins.0) = begins.1 in
    (cc, from_prefix flow last count values (begins.0, cc))

pub to_prefix : (flow : List ℤ) (last : ℤ) (count : ℕ) (values : List ℤ) → length values ≤ count → Continues flow last values
    → IsPrefixOf values (flow ++ replicate count last)
to_prefix flow last count [] le is = (flow ++ replicate count last, refl)
to_prefix [] last zero (v ∷ values) le is = absurd (omega (arith, le))
to_prefix [] last (suc n) (v ∷ values) le is =
    let rest = to_prefix [] last n values (omega (arith, le)) is.1 in
    (rest.0, rw is.0 (ap (λ list. last ∷ list) rest.1))
to_prefix (w ∷ flow) last count (v ∷ values) le is =
    let rest = to_prefix flow last count values (omega (arith, le)) is.1 in
    (rest.0, rw is.0 (ap (λ list. w ∷ list) rest.1))

-- what begins the flow
pub of_prefix : (flow : List ℤ) (last : ℤ) (values : List ℤ) → IsPrefixOf values flow → Continues flow last values
of_prefix flow last [] begins = tt
of_prefix [] last (v ∷ values) begins = absurd (let e = begins.1 in cc)
of_prefix (w ∷ flow) last (v ∷ values) begins =
    let e : w ∷ flow ≡ v ∷ (values ++ begins.0) = begins.1 in
    (cc, of_prefix flow last values (begins.0, cc))

pub within_flow : (flow : List ℤ) (last : ℤ) (values : List ℤ) → length values ≤ length flow → Continues flow last values → IsPrefixOf values flow
within_flow flow last [] le is = (flow, refl)
within_flow [] last (v ∷ values) le is = absurd (omega (arith, le))
within_flow (w ∷ flow) last (v ∷ values) le is =
    let rest = within_flow flow last values (omega (arith, le)) is.1 in
    (rest.0, rw is.0 (ap (λ list. w ∷ list) rest.1))

-- one value more
one_more : (flow : List ℤ) (last : ℤ) (values : List ℤ) (v : ℤ) → v ≡ get_or flow (length values) last → Continues flow last values → Continues flow last (values ++ v ∷ [])
one_more [] last [] v e is = (e, tt)
one_more (w ∷ flow) last [] v e is = (e, tt)
one_more [] last (u ∷ values) v e is = (is.0, one_more [] last values v e is.1)
one_more (w ∷ flow) last (u ∷ values) v e is = (is.0, one_more flow last values v e is.1)

one_back : (flow : List ℤ) (last : ℤ) (values : List ℤ) (v : ℤ) → Continues flow last (values ++ v ∷ []) → v ≡ get_or flow (length values) last
one_back [] last [] v is = is.0
one_back (w ∷ flow) last [] v is = is.0
one_back [] last (u ∷ values) v is = one_back [] last values v is.1
one_back (w ∷ flow) last (u ∷ values) v is = one_back flow last values v is.1

front_continues : (flow : List ℤ) (last : ℤ) (values more : List ℤ) → Continues flow last (values ++ more) → Continues flow last values
front_continues flow last [] more is = tt
front_continues [] last (v ∷ values) more is = (is.0, front_continues [] last values more is.1)
front_continues (w ∷ flow) last (v ∷ values) more is = (is.0, front_continues flow last values more is.1)

-- the value that follows the end of an input's flow
abbrev pub fill : Option Signal → ℤ
fill None = pos 0
fill (Some input) = filler input.kind

abbrev pub last_value : Kernel → ℕ → ℤ
last_value kernel input = fill (slice_get (inputs_of kernel) input)

extended_at : (inputs : List Signal) (flows : List (List ℤ)) (count input : ℕ) → length flows ≡ length inputs → input < length flows
    → get_or (map (extended_by count) (zip inputs flows)) input [] ≡ get_or flows input [] ++ replicate count (fill (slice_get inputs input))
extended_at inputs [] count input same lt = absurd (omega (arith, lt))
extended_at [] (flow ∷ flows) count input same lt = absurd (omega (arith, same))
extended_at (signal ∷ inputs) (flow ∷ flows) count zero same lt = refl
extended_at (signal ∷ inputs) (flow ∷ flows) count (suc input) same lt = extended_at inputs flows count input (omega (arith, same)) (omega (arith, lt))

extended_length : (inputs : List Signal) (flows : List (List ℤ)) (count : ℕ) → length flows ≡ length inputs → length (map (extended_by count) (zip inputs flows)) ≡ length flows
extended_length [] [] count same = refl
extended_length (signal ∷ inputs) (flow ∷ flows) count same = ap suc (extended_length inputs flows count (omega (arith, same)))
extended_length _ _ count same = absurd (omega (arith, same))

-- each input has the values of its flow, and then one value for ever
abbrev pub Follows : Kernel → List (List ℤ) → Trace → Type 0
Follows kernel flows trace = (input : ℕ) → input < length flows → Continues (get_or flows input []) (last_value kernel input) (flow_of input trace)

pub fits_follows : (kernel : Kernel) (flows : List (List ℤ)) (count : ℕ) (trace : Trace) → length flows ≡ length (inputs_of kernel)
    → Fits (extended kernel count flows) trace → Follows kernel flows trace
fits_follows kernel flows count trace same fits input lt =
    from_prefix (get_or flows input []) (last_value kernel input) count (flow_of input trace)
    (subst (λ flow. IsPrefixOf (flow_of input trace) flow) (extended_at (inputs_of kernel) flows count input same lt)
    (fits input (rw (extended_length (inputs_of kernel) flows count same) lt)))

-- an instant has one value of a signal at most
pub short_flow : (signal : ℕ) (trace : Trace) → length (flow_of signal trace) ≤ length trace
short_flow signal [] = omega arith
short_flow signal (instant ∷ trace) =
    let rest = short_flow signal trace in
    let joined : length (flow_of signal (instant ∷ trace)) ≡ length (option_to_list (seen_at instant signal)) + length (flow_of signal trace) = length-append (option_to_list (seen_at instant signal)) (flow_of signal trace) in
    let one : length (option_to_list (seen_at instant signal)) ≤ 1 = at_most (seen_at instant signal) in
    omega (arith, rest, joined, one) where
      at_most : (seen : Seen) → length (option_to_list seen) ≤ 1
      at_most None = omega arith
      at_most (Some v) = omega arith

pub follows_fits : (kernel : Kernel) (flows : List (List ℤ)) (count : ℕ) (trace : Trace) → length flows ≡ length (inputs_of kernel) → length trace ≤ count
    → Follows kernel flows trace → Fits (extended kernel count flows) trace
follows_fits kernel flows count trace same le follows input lt =
    let below : input < length flows = rw (extended_length (inputs_of kernel) flows count same) at lt in
    let few : length (flow_of input trace) ≤ count = omega (arith, short_flow input trace, le) in
    subst (λ flow. IsPrefixOf (flow_of input trace) flow) (sym (extended_at (inputs_of kernel) flows count input same below))
    (to_prefix (get_or flows input []) (last_value kernel input) count (flow_of input trace) few (follows input below))

-- the next value of an input behind a trace
abbrev pub next_in : Kernel → List (List ℤ) → Trace → ℕ → ℤ
next_in kernel flows trace input = get_or (get_or flows input []) (length (flow_of input trace)) (last_value kernel input)

pub flow_more : (signal : ℕ) (trace : Trace) (instant : Instant) → flow_of signal (trace ++ instant ∷ []) ≡ flow_of signal trace ++ option_to_list (seen_at instant signal)
flow_more signal trace instant = flow_append signal trace (instant ∷ []) ∙ ap (λ list. flow_of signal trace ++ list) (append-nil (option_to_list (seen_at instant signal)))

-- an instant that takes next values goes on
pub follows_more : (kernel : Kernel) (flows : List (List ℤ)) (trace : Trace) (instant : Instant) → Follows kernel flows trace
    → ((input : ℕ) (v : ℤ) → input < length flows → seen_at instant input ≡ Some v → v ≡ next_in kernel flows trace input) → Follows kernel flows (trace ++ instant ∷ [])
follows_more kernel flows trace instant follows takes input lt = rw (flow_more input trace instant) (by (seen_at instant input) refl) where
  by : (seen : Seen) → seen_at instant input ≡ seen → Continues (get_or flows input []) (last_value kernel input) (flow_of input trace ++ option_to_list seen)
  by None is = rw append-nil (follows input lt)
  by (Some v) is = one_more (get_or flows input []) (last_value kernel input) (flow_of input trace) v (takes input v lt is) (follows input lt)

pub follows_front : (kernel : Kernel) (flows : List (List ℤ)) (trace more : Trace) → Follows kernel flows (trace ++ more) → Follows kernel flows trace
follows_front kernel flows trace more follows input lt =
    front_continues (get_or flows input []) (last_value kernel input) (flow_of input trace) (flow_of input more)
    (subst (λ values. Continues (get_or flows input []) (last_value kernel input) values) (flow_append input trace more) (follows input lt))

pub follows_takes : (kernel : Kernel) (flows : List (List ℤ)) (trace : Trace) (instant : Instant) → Follows kernel flows (trace ++ instant ∷ [])
    → (input : ℕ) (v : ℤ) → input < length flows → seen_at instant input ≡ Some v → v ≡ next_in kernel flows trace input
follows_takes kernel flows trace instant follows input v lt is =
    one_back (get_or flows input []) (last_value kernel input) (flow_of input trace) v
    (subst (λ values. Continues (get_or flows input []) (last_value kernel input) values) (flow_more input trace instant ∙ ap (λ seen. flow_of input trace ++ option_to_list seen) is) (follows input lt))
