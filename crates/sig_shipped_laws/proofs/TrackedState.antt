-- An actor of a plan and a state of its image have the same of each signal, delay and input.
use Rattle.sig_shipped_laws.proofs.Common.{same_Some, ◌≡◌, ◌<◌, ◌+◌, ◌⊎◌, inl, inr, ℕ, ℤ, true, List, [], length, drop, set, length-set, None, Some, sym, ap, ◌∙◌, arith, slice_get, if◌then◌else◌, slice_index_or, slice_set, cases_order, EqId, SigId, seen_at, target_of, IsValid, Equation, Delay, Kernel, Actor, with_at, defined_once, State, written, is_delay, memory_number, slice_get_within, got, get_set_other, get_set_same}
use Rattle.sig_shipped_laws.proofs.Lists.{by_equal, counts_more}

module _ (kernel : Kernel) (flows : List (List ℤ)) where
  pub record Tracks (a : Actor) (s : State) : Type 0 where
    pub count : length s.registers ≡ length kernel.signals
    pub registers : (x : ℕ) → x < length kernel.signals → slice_get s.registers x ≡ Some (a.registers x)
    pub memories : (e : EqId) (d : Equation) (y x : SigId) (initial : ℤ) → slice_get kernel.equations e.0 ≡ Some d → d.form ≡ Delay y x initial
        → slice_get s.memories (memory_number kernel.equations e.0) ≡ Some (a.memories y.0)
    pub inputs : (x : ℕ) → x < kernel.inputs → slice_get s.flows x ≡ Some (drop (a.taken x) (slice_index_or flows x []))

  -- a register by its signal
  pub seen_there : (a : Actor) (s : State) → Tracks a s → (x : ℕ) → x < length kernel.signals → seen_at s.registers x ≡ a.registers x
  seen_there a s tracks x lt = (got s.registers x None (a.registers x) (tracks.registers x lt)).1

  -- an actor that has the same
  pub tracks_as : (a b : Actor) (s : State) → ((x : ℕ) → b.registers x ≡ a.registers x) → ((x : ℕ) → b.memories x ≡ a.memories x) → ((x : ℕ) → b.taken x ≡ a.taken x) → Tracks a s → Tracks b s
  tracks_as a b s registers memories taken tracks = record {
    count = tracks.count;
    registers = λ x lt. tracks.registers x lt ∙ ap Some (sym (registers x));
    memories = λ e d y x initial at form. tracks.memories e d y x initial at form ∙ ap Some (sym (memories y.0));
    inputs = λ x lt. tracks.inputs x lt ∙ ap (λ (n : ℕ). Some (drop n (slice_index_or flows x []))) (sym (taken x));
  }

  abbrev pub writes_register : ℕ → ℤ → Actor → Actor
  writes_register y v a = record a { registers = with_at y (Some v) a.registers }

  abbrev pub writes_memory : ℕ → ℤ → Actor → Actor
  writes_memory y v a = record a { memories = with_at y v a.memories }

  abbrev pub takes_value : ℕ → Actor → Actor
  takes_value x a = record a { taken = with_at x (a.taken x + 1) a.taken }

  pub tracks_written : (a : Actor) (s : State) → Tracks a s → (y : SigId) (v : ℤ) → y.0 < length kernel.signals → Tracks (writes_register y.0 v a) (written y v s)
  tracks_written a s tracks y v below = record {
    count = length-set s.registers y.0 (Some v) ∙ tracks.count;
    registers = λ x lt. by_equal (λ b. slice_get (set s.registers y.0 (Some v)) x ≡ Some (if b then Some v else a.registers x)) x y.0
        (λ same. ap (slice_get (set s.registers y.0 (Some v))) same ∙ get_set_same s.registers y.0 (Some v) (let c = tracks.count in omega (arith, below, c)))
        (λ apart. get_set_other s.registers y.0 x (Some v) apart ∙ tracks.registers x lt);
    memories = tracks.memories;
    inputs = tracks.inputs;
  }

  pub tracks_taken : (a : Actor) (s : State) → Tracks a s → (x : SigId) → x.0 < kernel.inputs
      → Tracks (takes_value x.0 a) (record s { flows = slice_set s.flows x.0 (drop (a.taken x.0 + 1) (slice_index_or flows x.0 [])) })
  tracks_taken a s tracks x below = record {
    count = tracks.count;
    registers = tracks.registers;
    memories = tracks.memories;
    inputs = λ k lt. by_equal (λ b. slice_get (set s.flows x.0 (drop (a.taken x.0 + 1) (slice_index_or flows x.0 []))) k ≡ Some (drop (if b then a.taken x.0 + 1 else a.taken k) (slice_index_or flows k []))) k x.0
        (λ same. ap (slice_get (set s.flows x.0 (drop (a.taken x.0 + 1) (slice_index_or flows x.0 [])))) same
        ∙ get_set_same s.flows x.0 (drop (a.taken x.0 + 1) (slice_index_or flows x.0 [])) (slice_get_within s.flows x.0 _ (tracks.inputs x.0 below))
        ∙ ap (λ (n : ℕ). Some (drop (a.taken x.0 + 1) (slice_index_or flows n []))) (sym same))
        (λ apart. get_set_other s.flows x.0 k (drop (a.taken x.0 + 1) (slice_index_or flows x.0 [])) apart ∙ tracks.inputs k lt);
  }

  module _ (valid : IsValid kernel) (e : EqId) (d : Equation) (y x : SigId) (initial : ℤ) (at : slice_get kernel.equations e.0 ≡ Some d) (form : d.form ≡ Delay y x initial) where
    delays : (q : Equation) (z u : SigId) (i : ℤ) → q.form ≡ Delay z u i → is_delay q.form ≡ true
    delays q z u i is = ap is_delay is

    -- delays have memories of their own
    own_memory : (n : ℕ) (q : Equation) (z u : SigId) (i : ℤ) → slice_get kernel.equations n ≡ Some q → q.form ≡ Delay z u i → memory_number kernel.equations n ≡ memory_number kernel.equations e.0 → n ≡ e.0
    own_memory n q z u i there is same = by (cases_order n e.0) where
      by : (n ≡ e.0) ⊎ ((n < e.0) ⊎ (e.0 < n)) → n ≡ e.0
      by (inl is_e) = is_e
      by (inr (inl less)) = let more = counts_more (λ (c : Equation). is_delay c.form) kernel.equations n e.0 q less there (delays q z u i is) in absurd (omega (arith, more, same))
      by (inr (inr more)) = let less = counts_more (λ (c : Equation). is_delay c.form) kernel.equations e.0 n d more at (delays d y x initial form) in absurd (omega (arith, less, same))

    delayed_one : (q : Equation) (z u : SigId) (i : ℤ) → slice_get kernel.equations e.0 ≡ Some q → q.form ≡ Delay z u i → z ≡ y
    delayed_one q z u i there is =
        let one : q ≡ d = same_Some q d (sym there ∙ at) in
        let forms : Delay z u i ≡ Delay y x initial = sym is ∙ ap (λ (c : Equation). c.form) one ∙ form in
        cc

    abbrev m : ℕ
    m = memory_number kernel.equations e.0

    pub tracks_stored : (a : Actor) (s : State) → Tracks a s → (v : ℤ) → Tracks (writes_memory y.0 v a) (record s { memories = slice_set s.memories (memory_number kernel.equations e.0) v })
    tracks_stored a s tracks v = record { count = tracks.count; registers = tracks.registers; memories = kept; inputs = tracks.inputs } where
      kept : (e' : EqId) (q : Equation) (z u : SigId) (i : ℤ) → slice_get kernel.equations e'.0 ≡ Some q → q.form ≡ Delay z u i
          → slice_get (set s.memories m v) (memory_number kernel.equations e'.0) ≡ Some (with_at y.0 v a.memories z.0)
      kept e' q z u i there is = by_equal (λ b. slice_get (set s.memories m v) (memory_number kernel.equations e'.0) ≡ Some (if b then v else a.memories z.0)) z.0 y.0
          (λ same.
          let target : z ≡ y = (λ j. record { 0 = same j }) in
          let one : e'.0 ≡ e.0 = defined_once kernel valid e'.0 e.0 q d y there at (ap target_of is ∙ ap Some target) (ap target_of form) in
          ap (λ (n : ℕ). slice_get (set s.memories m v) (memory_number kernel.equations n)) one ∙ get_set_same s.memories m v (slice_get_within s.memories m _ (tracks.memories e d y x initial at form)))
          (λ apart. get_set_other s.memories m (memory_number kernel.equations e'.0) v
          (λ same.
          let one : e'.0 ≡ e.0 = own_memory e'.0 q z u i there is same in
          let target = delayed_one q z u i (ap (slice_get kernel.equations) (sym one) ∙ there) is in
          apart (ap (λ (w : SigId). w.0) target))
          ∙ tracks.memories e' q z u i there is)
