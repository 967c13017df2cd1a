-- Guards amid an instant: what they tell, and that it stands while their operations are done.
use Rattle.std.proofs.Common.{◌≡◌, ◌⊎◌, inl, inr, ℕ, zero, suc, ℤ, pos, Bool, true, false, not, [], Option, Some, None, refl, sym, ap, subst, ◌∙◌, arith, take, slice_get, ◌==◌, IsTrue, if◌then◌else◌, int_eq}
use Rattle.std.specs.List.{list_any}
use Rattle.sig_base.specs.Traces.{Bounded, IsValue, seen_at}
use Rattle.sig_base.specs.declared.ids.Kind.{Kind}
use Rattle.sig_base.specs.declared.ids.Kind.TheVariants.{Integer, Boolean, Event}
use Rattle.sig_base.specs.declared.ids.SigId.{SigId}
use Rattle.sig_dd.specs.Nodes.{diagram}
unfoldable use Rattle.sig_dd.specs.Diagram.{value_at}
use Rattle.sig_dd.proofs.Listed.{diagram-false, diagram-true}
use Rattle.sig_file.specs.Guarded.{IsSoundImage, IsWrittenBefore, Writes, guarded_in, guards_of, nodes_in}
use Rattle.sig_file.specs.ImageRuns.{State, Does, is_true, proposal_of}
use Rattle.sig_file.specs.Images.{ImageView, IsImage, is_boolean, is_condition_behind, kind_at}
use Rattle.sig_file.specs.declared.images.ImageOp.{ImageOp}
use Rattle.sig_file.specs.declared.images.ImageOpKind.{ImageOpKind}
use Rattle.sig_file.specs.declared.images.ImageOpKind.TheVariants as does
use Rattle.sig_exec.proofs.Common.{and_first, each_at}
use Rattle.sig_exec.proofs.GuardWalks.{Stays, stays}
use Rattle.sig_exec.proofs.KeptKinds.{no, register_kind}
use Rattle.sig_exec.proofs.Places.{condition_within, guarded_at}
use Rattle.sig_c.specs.SmallC.{Place, When, Statements, more, Width}
use Rattle.sig_c.specs.Meaning.{Memory, Outcome, GoesOn, Undefined, Functions, and_then, chosen, run, truth}
use Rattle.sig_c_step.specs.Translation.{block, guard_of}
use Rattle.sig_c_step.proofs.Conditions.{Tell, condition_is}
use Rattle.sig_c_step.proofs.Likeness.{IsLike, seen_other, value_in}
use Rattle.sig_c_step.proofs.Operations.{run_then}
use Rattle.sig_c_step.proofs.StateKinds.{AreKinded}

-- whether the guard of a number is true in a state
abbrev pub guard_holds : ImageView → ℕ → State → Bool
guard_holds image guard s = value_at (diagram (nodes_in image.nodes) (record { number = guard })) (proposal_of image.conditions s.registers)

pub never_holds : (image : ImageView) (guard : ℕ) (s : State) → guard ≡ 0 → guard_holds image guard s ≡ false
unfolding value_at
never_holds image guard s is = ap (λ d. value_at d (proposal_of image.conditions s.registers)) (diagram-false (nodes_in image.nodes) (record { number = guard }) is)

pub always_holds : (image : ImageView) (guard : ℕ) (s : State) → guard ≡ 1 → guard_holds image guard s ≡ true
unfolding value_at
always_holds image guard s is = ap (λ d. value_at d (proposal_of image.conditions s.registers)) (diagram-true (nodes_in image.nodes) (record { number = guard }) is)

truth_of_value : (o : Option ℤ) → ((v : ℤ) → o ≡ Some v → IsValue Bounded Boolean v) → Some (value_in o) ≡ Some (truth (is_true o))
truth_of_value None are = refl
truth_of_value (Some v) are = by (are v refl) where
  by : (v ≡ pos 0) ⊎ (v ≡ pos 1) → Some v ≡ Some (truth (int_eq v (pos 1)))
  by (inl e) = rw e refl
  by (inr e) = rw e refl

boolean_is : (o : Option Kind) → is_boolean o ≡ true → o ≡ Some Boolean
boolean_is (Some Boolean) is = refl
boolean_is (Some Integer) is = no is
boolean_is (Some Event) is = no is
boolean_is None is = no is

-- what is not written stays
does_leaves : (kind : ImageOpKind) (s t : State) → Does kind s t → (x : ℕ) → ((y : SigId) → Writes kind y → y.0 ≡ x → ⊥) → seen_at t.registers x ≡ seen_at s.registers x
does_leaves (does.Read y) s t (v, rest, is, e) x apart = ap (λ (u : State). seen_at u.registers x) e ∙ seen_other s.registers y.0 v x (λ f. apart y refl (sym f))
does_leaves (does.Fun y op operands) s t (v, computes, small, e) x apart = ap (λ (u : State). seen_at u.registers x) e ∙ seen_other s.registers y.0 v x (λ f. apart y refl (sym f))
does_leaves (does.Copy y z) s t (v, is, e) x apart = ap (λ (u : State). seen_at u.registers x) e ∙ seen_other s.registers y.0 v x (λ f. apart y refl (sym f))
does_leaves (does.Const y v) s t e x apart = ap (λ (u : State). seen_at u.registers x) e ∙ seen_other s.registers y.0 v x (λ f. apart y refl (sym f))
does_leaves (does.DelayRead y n) s t (v, is, e) x apart = ap (λ (u : State). seen_at u.registers x) e ∙ seen_other s.registers y.0 v x (λ f. apart y refl (sym f))
does_leaves (does.Store n z) s t (v, is, e) x apart = ap (λ (u : State). seen_at u.registers x) e

module _ (image : ImageView) (right : IsImage image) where
  conditions_tell : (before : Memory) (s : State) (m : Memory) → IsLike image before s m → AreKinded image s → Tell image.conditions s.registers m
  conditions_tell before s m like kinded n x is =
      let rule = each_at (λ earlier y. IsTrue (is_condition_behind image.signals earlier y.0)) [] image.conditions n x right.conditions is in
      let kind = boolean_is (kind_at image.signals x.0) (and_first (is_boolean (kind_at image.signals x.0)) (not (list_any (λ condition. condition.0 == x.0) (take n image.conditions))) rule) in
      like.signals x.0 (condition_within image right n x is)
      ∙ truth_of_value (seen_at s.registers x.0) (λ v there. register_kind image.signals s.registers x.0 Boolean v kinded.registers kind there)

  -- a block does its statements if its guard is true, and then what follows
  module _ (widths : Place → Width) (call : Functions) (before : Memory) (s : State) (m : Memory) (like : IsLike image before s m) (kinded : AreKinded image s) where
    asked_block : (guard : ℕ) (body after : Statements) (b : Bool) → guard_holds image guard s ≡ b
        → run call widths (more (When (guard_of image guard) body) after) m ≡ and_then (if b then run call widths body m else GoesOn m) (run call widths after)
    asked_block guard body after b is =
        ap (λ (o : Option ℤ). and_then (chosen Undefined o (run call widths body m) (GoesOn m)) (run call widths after))
        (condition_is widths image.conditions s.registers m (conditions_tell before s m like kinded) (diagram (nodes_in image.nodes) (record { number = guard })) ∙ ap (λ (q : Bool). Some (truth q)) is)
        ∙ ap (λ (o : Outcome). and_then o (run call widths after)) (by b)
      where
        by : (q : Bool) → chosen Undefined (Some (truth q)) (run call widths body m) (GoesOn m) ≡ (if q then run call widths body m else GoesOn m)
        by true = refl
        by false = refl

    pub block_runs : (guard : ℕ) (body after : Statements) (b : Bool) → guard_holds image guard s ≡ b
        → run call widths (block image guard body after) m ≡ and_then (if b then run call widths body m else GoesOn m) (run call widths after)
    block_runs (suc zero) body after true is = run_then call widths body after m
    block_runs (suc zero) body after false is = no (sym is ∙ always_holds image 1 s refl)
    block_runs zero body after b is = asked_block zero body after b is
    block_runs (suc (suc guard)) body after b is = asked_block (suc (suc guard)) body after b is

  -- the guard of an operation that is done stays true
  pub guard_stays : IsSoundImage image → (n : ℕ) (op : ImageOp) (s t : State) → slice_get image.ops n ≡ Some op → guard_holds image op.guard s ≡ true → Does op.kind s t
      → guard_holds image op.guard t ≡ true
  guard_stays sound n op s t is on done = sym (stays (guards_of image) sound n s t same n (guarded_in image.nodes op) (omega arith) (guarded_at image right n op is)) ∙ on where
    same : Stays (guards_of image) n s t
    same x w = does_leaves op.kind s t done x.0 (λ y writes equal.
        (sound n (guarded_in image.nodes op) (guarded_at image right n op is)).writes (proposal_of image.conditions s.registers) y on writes
        (subst (λ (k : ℕ). IsWrittenBefore (guards_of image).ops n (proposal_of image.conditions s.registers) (record { 0 = k })) (sym equal) w))
