-- Signals, conditions, memories and nodes, both ways.
use Rattle.sig_file.proofs.Common.{◌≡◌, ℕ, zero, suc, ◌+◌, ◌<◌, ◌≤◌, ◌^◌, Bool, true, List, length, Option, None, Some, refl, sym, ap, arith, append_assoc, cases_lt, inl, inr, ltb-true, lt-ltb, slice_get, slice_get_past, ltb, ℤ, ◌&&◌, not, Kind, Integer, Boolean, Event, SigId, SIGNALS, NODES, value_is, condition_bytes, kind_number, memory_bytes, node_bytes, number_bytes, signal_bytes, condition_at, kinds, memory_from, memory_kinds, node_at, signal_at, signal_id, IsMemory, IsNodeBehind, IsSignalBehind, is_child, is_condition_behind, is_high_child, is_later, is_memory_kind, is_name, is_name_length, is_taken, number_if, ImageMemory, ImageNode, ImageSignal, and_from, and_parts, not_from_false, not_true}
use Rattle.sig_file.proofs.Choices.{kinds_numbered, kinds_there, memory_kinds_numbered}
use Rattle.sig_file.proofs.Fields.{Reads, choice_reads, if_reads, last_reads, long_reads, number_reads, reads_so, text_reads, then_reads}
use Rattle.sig_file.proofs.Rules.{is_short}
use Rattle.sig_file.proofs.Values.{boolean_below, value_fits}

-- a number that a rule lets through
pub rule_reads : (rule : ℕ → Bool) → Reads (number_if rule) (λ n. (n < 2 ^ 32) × (rule n ≡ true)) number_bytes
rule_reads rule = if_reads _ _ _ rule number_reads

-- ---- signals

abbrev name_rule : ℕ → List ImageSignal → List ℕ → Bool
name_rule inputs before name = is_name name && not (is_taken inputs before name)

abbrev named : Kind → List ℕ → ImageSignal
named kind name = record { kind = kind; name = name }

pub signal_reads : (inputs : ℕ) (before : List ImageSignal) → Reads (signal_at inputs before) (IsSignalBehind inputs before) signal_bytes
unfolding signal_at
signal_reads inputs before =
    reads_so _ _ _ _ _
    (λ s h. (let rules = and_parts (is_name s.name) (not (is_taken inputs before s.name)) h.1.1.0.1 in record { long = h.1.0.1; printable = rules.0; free = not_true _ rules.1 }))
    (λ s h. (kinds_there s.kind, ((is_short (length s.name) h.long, h.long), ((refl, and_from _ _ h.printable (not_from_false _ h.free)), refl))))
    (λ s h. refl)
    (then_reads _ _ _ _ _ _ (λ s. s.kind) (choice_reads kinds kind_number kinds_numbered)
    (λ kind. then_reads _ _ _ _ _ _ (λ s. length s.name) (rule_reads is_name_length)
    (λ len. last_reads _ _ _ (named kind) (λ s. s.name) (λ name. refl) (if_reads _ _ _ (name_rule inputs before) (text_reads len)))
    (λ len s h k. k.0.0))
    (λ kind s h k. ap (λ (y : ImageSignal). y.kind) (sym k.1.1)))

-- ---- conditions

pub condition_reads : (signals : List ImageSignal) → length signals ≤ SIGNALS → (before : List SigId) → Reads (condition_at signals before) (λ x. is_condition_behind signals before x.0 ≡ true) condition_bytes
unfolding condition_at
condition_reads signals few before =
    reads_so _ _ _ _ _
    (λ x h. h.0.1)
    (λ x h. (let lt : x.0 < length signals = boolean_below signals x.0 (and_parts _ _ h).0 in ((omega arith, h), refl)))
    (λ x h. refl)
    (last_reads _ _ _ signal_id (λ x. x.0) (λ n. refl) (rule_reads (is_condition_behind signals before)))

-- ---- memories

abbrev kept : Kind → ℤ → ImageMemory
kept kind init = record { kind = kind; init = init }

may_keep : (kind : Kind) → slice_get memory_kinds (kind_number kind) ≡ Some kind → is_memory_kind kind ≡ true
may_keep Integer e = refl
may_keep Boolean e = refl
may_keep Event e = absurd cc

keeps : (kind : Kind) → is_memory_kind kind ≡ true → slice_get memory_kinds (kind_number kind) ≡ Some kind
keeps Integer e = refl
keeps Boolean e = refl
keeps Event e = absurd cc

pub memory_reads : Reads memory_from IsMemory memory_bytes
unfolding memory_from
memory_reads =
    reads_so _ _ _ _ _
    (λ m h. record { kept = may_keep m.kind h.0; init = h.1.0.1 })
    (λ m h. (keeps m.kind h.kept, ((value_fits m.kind m.init h.init, h.init), refl)))
    (λ m h. refl)
    (then_reads _ _ _ _ _ _ (λ m. m.kind) (choice_reads memory_kinds kind_number memory_kinds_numbered)
    (λ kind. last_reads _ _ _ (kept kind) (λ m. m.init) (λ init. refl) (if_reads _ _ _ (value_is kind) long_reads))
    (λ kind m h k. ap (λ (y : ImageMemory). y.kind) (sym k.1)))

-- ---- nodes

abbrev noded : ℕ → ℕ → ℕ → ImageNode
noded variable low high = record { variable = variable; low = low; high = high }

none_later : (variable : ℕ) (node : Option ImageNode) → is_later variable node ≡ true → node ≡ None → ⊥
none_later variable None e h = absurd cc
none_later variable (Some node) e h = absurd cc

pub child_below : (before : List ImageNode) (variable child : ℕ) → is_child before variable child ≡ true → child < length before + 2
child_below before variable zero e = omega arith
child_below before variable (suc zero) e = omega arith
child_below before variable (suc (suc n)) e =
    elim (cases_lt n (length before)) [
      | inl lt ↦ omega arith
      | inr le ↦ absurd (none_later variable _ e (slice_get_past before n le))
    ]

pub node_reads : (conditions : ℕ) → conditions ≤ 512 → (before : List ImageNode) → length before < NODES → Reads (node_at conditions before) (IsNodeBehind conditions before) node_bytes
unfolding node_at
node_reads conditions few before small =
    reads_so _ _ _ _ _
    (λ n h. record { variable = ltb-true _ _ h.0.1; low = h.1.0.1; high = h.1.1.0.1 })
    (λ n h. (
    let low = child_below before n.variable n.low h.low in
    let high = child_below before n.variable n.high (and_parts _ _ h.high).0 in
    ((omega (arith, h.variable), lt-ltb _ _ h.variable), ((omega arith, h.low), ((omega arith, h.high), refl)))))
    (λ n h. sym (append_assoc (number_bytes n.variable) (number_bytes n.low) (number_bytes n.high)))
    (then_reads _ _ _ _ _ _ (λ n. n.variable) (rule_reads (λ v. ltb v conditions))
    (λ variable. then_reads _ _ _ _ _ _ (λ n. n.low) (rule_reads (is_child before variable))
    (λ low. last_reads _ _ _ (noded variable low) (λ n. n.high) (λ high. refl) (rule_reads (is_high_child before variable low)))
    (λ low n h k. ap (λ (y : ImageNode). y.low) (sym k.1)))
    (λ variable n h k. ap (λ (y : ImageNode). y.variable) (sym k.1.1)))
