-- The variables of a step have what a state of the image has.
use Rattle.std.proofs.Common.{◌≡◌, ◌≢◌, ◌⊎◌, inl, inr, ◌<◌, ◌≤◌, ◌+◌, ◌-◌, ℕ, ℤ, pos, Bool, true, false, List, Option, Some, None, sym, ap, subst, ◌∙◌, arith, length, set, get_or, nat_eq, if◌then◌else◌, slice_index_or, slice_set, unwrap_or, get_or-set_other, get_or-set_same}
use Rattle.std.specs.Prelude.{is_some}
use Rattle.std.proofs.lemmas.Bool.{cases_lt}
use Rattle.std.proofs.lemmas.Bool.Decides.{eqb_tells}
use Rattle.sig_base.specs.Traces.{Instant, seen_at}
use Rattle.sig_base.specs.declared.ids.SigId.{SigId}
use Rattle.sig_file.specs.ImageRuns.{State, written}
use Rattle.sig_file.specs.Images.{ImageView}
use Rattle.sig_c.specs.SmallC.{Variable, Field}
use Rattle.sig_c.specs.Meaning.{Memory, truth, with_value}
use Rattle.sig_c_step.specs.Translation.{comes, next, is_output}

abbrev pub value_in : Option ℤ → ℤ
value_in o = unwrap_or o (pos 0)

-- the fields of the state, and the outputs, are those of an earlier memory
pub record IsLike (image : ImageView) (before : Memory) (s : State) (m : Memory) : Type 0 where
  pub signals : (x : ℕ) → x < length image.signals → m.values (Variable x) ≡ Some (value_in (seen_at s.registers x))
  pub outputs : (y : ℕ) → y < image.outputs → m.values (Variable (comes image y)) ≡ Some (truth (is_some (seen_at s.registers (image.inputs + y))))
  pub memories : (n : ℕ) → n < length image.memories → m.values (Variable (next image n)) ≡ Some (slice_index_or s.memories n (pos 0))
  pub fields : (n : ℕ) → m.values (Field n) ≡ before.values (Field n)
  pub flows : m.flows ≡ s.flows
  pub given : m.given ≡ before.given

-- ---- places

pub at_same : (x y : ℕ) (v : ℤ) (old : Option ℤ) → x ≡ y → (if nat_eq x y then Some v else old) ≡ Some v
at_same x y v old same = elim (eqb_tells x y) [
  | inl e ↦ ap (λ (b : Bool). if b then Some v else old) e.0
  | inr e ↦ absurd (e.1 same)
]

pub at_other : (x y : ℕ) (v : ℤ) (old : Option ℤ) → x ≢ y → (if nat_eq x y then Some v else old) ≡ old
at_other x y v old apart = elim (eqb_tells x y) [
  | inl e ↦ absurd (apart e.1)
  | inr e ↦ ap (λ (b : Bool). if b then Some v else old) e.0
]

seen_same : (registers : Instant) (y : ℕ) (v : ℤ) (x : ℕ) → y < length registers → x ≡ y → seen_at (slice_set registers y (Some v)) x ≡ Some v
seen_same registers y v x within same = ap (λ (k : ℕ). get_or (set registers y (Some v)) k None) same ∙ get_or-set_same registers y (Some v) None within

pub seen_other : (registers : Instant) (y : ℕ) (v : ℤ) (x : ℕ) → x ≢ y → seen_at (slice_set registers y (Some v)) x ≡ seen_at registers x
seen_other registers y v x apart = get_or-set_other registers y x (Some v) None apart

-- ---- a signal is written

pub output_told : (image : ImageView) (y : ℕ) → ((is_output image y ≡ true) × (image.inputs ≤ y) × (y < image.inputs + image.outputs)) ⊎ ((is_output image y ≡ false) × ((k : ℕ) → k < image.outputs → image.inputs + k ≢ y))
output_told image y = elim (cases_lt y image.inputs) [
  | inl early ↦ inr (grind (arith, early), λ k within same. omega (arith, early, same))
  | inr from ↦ elim (cases_lt y (image.inputs + image.outputs)) [
    | inl before ↦ inl (grind (arith, from, before), from, before)
    | inr late ↦ inr (grind (arith, late), λ k within same. omega (arith, late, same, within))
  ]
]

-- where the signal is an output, it comes
abbrev pub marked : ImageView → ℕ → Memory → Memory
marked image y m = if is_output image y then with_value (Variable (comes image (y - image.inputs))) (pos 1) m else m

module _ (image : ImageView) (before : Memory) (s : State) (m : Memory) (like : IsLike image before s m) where
  module _ (y : SigId) (v : ℤ) (within : y.0 < length image.signals) (count : length s.registers ≡ length image.signals) where
    signal_at : (x : ℕ) → x < length image.signals → (with_value (Variable y.0) v m).values (Variable x) ≡ Some (value_in (seen_at (written y v s).registers x))
    signal_at x inside = elim (eqb_tells x y.0) [
      | inl e ↦ at_same x y.0 v (m.values (Variable x)) e.1 ∙ ap (λ (o : Option ℤ). Some (value_in o)) (sym (seen_same s.registers y.0 v x (omega (arith, within, count)) e.1))
      | inr e ↦ at_other x y.0 v (m.values (Variable x)) e.1 ∙ like.signals x inside ∙ ap (λ (o : Option ℤ). Some (value_in o)) (sym (seen_other s.registers y.0 v x e.1))
    ]

    -- another output comes or not as before
    output_at : (k : ℕ) → k < image.outputs → image.inputs + k ≢ y.0
        → (with_value (Variable y.0) v m).values (Variable (comes image k)) ≡ Some (truth (is_some (seen_at (written y v s).registers (image.inputs + k))))
    output_at k inside apart =
        at_other (comes image k) y.0 v (m.values (Variable (comes image k))) (λ e. omega (arith, e, within)) ∙ like.outputs k inside
        ∙ ap (λ (o : Option ℤ). Some (truth (is_some o))) (sym (seen_other s.registers y.0 v (image.inputs + k) apart))

    memory_at : (n : ℕ) → n < length image.memories → (with_value (Variable y.0) v m).values (Variable (next image n)) ≡ Some (slice_index_or s.memories n (pos 0))
    memory_at n inside = at_other (next image n) y.0 v (m.values (Variable (next image n))) (λ e. omega (arith, e, within)) ∙ like.memories n inside

    like_unmarked : ((k : ℕ) → k < image.outputs → image.inputs + k ≢ y.0) → IsLike image before (written y v s) (with_value (Variable y.0) v m)
    like_unmarked apart = record {
      signals = signal_at;
      outputs = λ k inside. output_at k inside (apart k inside);
      memories = memory_at;
      fields = like.fields;
      flows = like.flows;
      given = like.given;
    }

    like_marked : image.inputs ≤ y.0 → y.0 < image.inputs + image.outputs
        → IsLike image before (written y v s) (with_value (Variable (comes image (y.0 - image.inputs))) (pos 1) (with_value (Variable y.0) v m))
    like_marked from below =
        let mark : ℕ = comes image (y.0 - image.inputs) in
        let set_one : Memory = with_value (Variable y.0) v m in
        record {
          signals = λ x inside. at_other x mark (pos 1) (set_one.values (Variable x)) (λ e. omega (arith, e, inside)) ∙ signal_at x inside;
          outputs = λ k inside. elim (eqb_tells (image.inputs + k) y.0) [
            | inl e ↦ let same = e.1 in at_same (comes image k) mark (pos 1) (set_one.values (Variable (comes image k))) (omega (arith, same))
                ∙ ap (λ (o : Option ℤ). Some (truth (is_some o))) (sym (seen_same s.registers y.0 v (image.inputs + k) (omega (arith, within, count)) same))
            | inr e ↦ let apart = e.1 in at_other (comes image k) mark (pos 1) (set_one.values (Variable (comes image k))) (λ f. apart (omega (arith, f, from))) ∙ output_at k inside apart
          ];
          memories = λ n inside. at_other (next image n) mark (pos 1) (set_one.values (Variable (next image n))) (λ e. omega (arith, e, from, below)) ∙ memory_at n inside;
          fields = like.fields;
          flows = like.flows;
          given = like.given;
        }

    pub like_written : IsLike image before (written y v s) (marked image y.0 (with_value (Variable y.0) v m))
    like_written = elim (output_told image y.0) [
      | inl e ↦ subst (λ (b : Bool). IsLike image before (written y v s) (if b then with_value (Variable (comes image (y.0 - image.inputs))) (pos 1) (with_value (Variable y.0) v m) else with_value (Variable y.0) v m)) (sym e.0) (like_marked e.1 e.2)
      | inr e ↦ subst (λ (b : Bool). IsLike image before (written y v s) (if b then with_value (Variable (comes image (y.0 - image.inputs))) (pos 1) (with_value (Variable y.0) v m) else with_value (Variable y.0) v m)) (sym e.0) (like_unmarked e.1)
    ]

  -- ---- a memory is written, and an input goes on

  pub like_stored : (n : ℕ) (v : ℤ) → n < length image.memories → length s.memories ≡ length image.memories
      → IsLike image before (record s { memories = slice_set s.memories n v }) (with_value (Variable (next image n)) v m)
  like_stored n v within count = record {
    signals = λ x inside. at_other x (next image n) v (m.values (Variable x)) (λ e. omega (arith, e, inside)) ∙ like.signals x inside;
    outputs = λ k inside. at_other (comes image k) (next image n) v (m.values (Variable (comes image k))) (λ e. omega (arith, e, inside)) ∙ like.outputs k inside;
    memories = λ k inside. elim (eqb_tells k n) [
      | inl e ↦ let same = e.1 in at_same (next image k) (next image n) v (m.values (Variable (next image k))) (omega (arith, same))
          ∙ ap Some (sym (ap (λ (i : ℕ). get_or (set s.memories n v) i (pos 0)) same ∙ get_or-set_same s.memories n v (pos 0) (omega (arith, within, count))))
      | inr e ↦ let apart = e.1 in at_other (next image k) (next image n) v (m.values (Variable (next image k))) (λ f. apart (omega (arith, f))) ∙ like.memories k inside
          ∙ ap Some (sym (get_or-set_other s.memories n k v (pos 0) apart))
    ];
    fields = like.fields;
    flows = like.flows;
    given = like.given;
  }

  pub like_read : (x : ℕ) (rest : List ℤ) → IsLike image before (record s { flows = slice_set s.flows x rest }) (record m { flows = slice_set m.flows x rest })
  like_read x rest = record {
    signals = like.signals;
    outputs = like.outputs;
    memories = like.memories;
    fields = like.fields;
    flows = ap (λ (l : List (List ℤ)). slice_set l x rest) like.flows;
    given = like.given;
  }
