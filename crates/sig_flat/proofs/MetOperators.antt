-- An instant meets the equations of an operator exactly where the operator is what it has to be.
use Rattle.sig_flat.proofs.Common.{◌≡◌, ◌↔◌, ◌||◌, ℤ, pos, true, [], ◌∷◌, Some, is_some, refl, sym, ap, ◌∙◌, Integer, SigId, Bounded, Instant, IsOfKind, seen_at, Meets, Memory, function_of, where_present, where_true, or_else, is_signal, Delay, Fun, Sync, WhenConst, FunOp, Not, Operand, Sig, Default as DefaultOf, Less, Meet, Plus, When as Sampled, Clock, AppliesToBoth, AppliesToOne, Changes, Combines, Constant, clock_of, delayed, held, sampled, AreMet, found_at}
use Rattle.sig_kernel.specs.declared.equation.Form.TheVariants.{Default, Event, When}
use Rattle.sig_kernel.specs.declared.equation.Operand.TheVariants.{Const}
use Rattle.sig_tree.specs.Operators.{Signal, merged}
use Rattle.sig_flat.proofs.AppliedFunctions.{one_to, one_from, both_to, both_from, first_to, first_from, second_to, second_from, not_to, not_from}
use Rattle.sig_flat.proofs.OperatorEquations.{when_is, clock_is, merge_is, delay_is, plus_is, meet_is, less_is, cell_to, cell_value, cell_present}

pub one_row : (memory : Memory) (instant : Instant) (op : FunOp) (x y : SigId) → IsOfKind Bounded Integer (seen_at instant y.0)
    → (Meets Bounded memory instant (Fun y op (Sig x ∷ [])) ↔ AppliesToOne (function_of op) (Signal (seen_at instant x.0)) (seen_at instant y.0))
one_row memory instant op x y fits = (
  λ h. one_to (function_of op) instant x (seen_at instant x.0) (seen_at instant y.0) refl fits h,
  λ h. one_from (function_of op) instant x (seen_at instant x.0) (seen_at instant y.0) refl h,
)

pub both_row : (memory : Memory) (instant : Instant) (op : FunOp) (u v : Operand) (y : SigId) → IsOfKind Bounded Integer (seen_at instant y.0)
    → is_signal u || is_signal v ≡ true
    → (Meets Bounded memory instant (Fun y op (u ∷ v ∷ [])) ↔ AppliesToBoth (function_of op) (found_at instant u) (found_at instant v) (seen_at instant y.0))
both_row memory instant op (Sig u) (Sig v) y fits some = (
  λ h. both_to (function_of op) instant u v (seen_at instant u.0) (seen_at instant v.0) (seen_at instant y.0) refl refl fits h,
  λ h. both_from (function_of op) instant u v (seen_at instant u.0) (seen_at instant v.0) (seen_at instant y.0) refl refl h,
)
both_row memory instant op (Sig u) (Const d) y fits some = (
  λ h. first_to (function_of op) instant u d (seen_at instant u.0) (seen_at instant y.0) refl fits h,
  λ h. first_from (function_of op) instant u d (seen_at instant u.0) (seen_at instant y.0) refl h,
)
both_row memory instant op (Const c) (Sig v) y fits some = (
  λ h. second_to (function_of op) instant c v (seen_at instant v.0) (seen_at instant y.0) refl fits h,
  λ h. second_from (function_of op) instant c v (seen_at instant v.0) (seen_at instant y.0) refl h,
)
both_row memory instant op (Const c) (Const d) y fits some = absurd cc

pub delay_row : (memory : Memory) (instant : Instant) (x y : SigId) (init : ℤ)
    → (Meets Bounded memory instant (Delay y x init) ↔ (seen_at instant y.0 ≡ delayed (memory y.0 x.0 init) (seen_at instant x.0)))
delay_row memory instant x y init = let same = delay_is (memory y.0 x.0 init) (seen_at instant x.0) in (λ h. h ∙ same, λ h. h ∙ sym same)

pub when_row : (memory : Memory) (instant : Instant) (x b y : SigId)
    → (Meets Bounded memory instant (When y x b) ↔ Combines Sampled (Signal (seen_at instant x.0)) (Signal (seen_at instant b.0)) (seen_at instant y.0))
when_row memory instant x b y = let same = when_is (seen_at instant b.0) (seen_at instant x.0) in (λ h. h ∙ same, λ h. h ∙ sym same)

pub constant_row : (memory : Memory) (instant : Instant) (constant : ℤ) (b y : SigId)
    → (Meets Bounded memory instant (WhenConst y constant b) ↔ Combines Sampled (Constant constant) (Signal (seen_at instant b.0)) (seen_at instant y.0))
constant_row memory instant constant b y = let same = when_is (seen_at instant b.0) (Some constant) in (λ h. h ∙ same, λ h. h ∙ sym same)

pub default_row : (memory : Memory) (instant : Instant) (u v y : SigId)
    → (Meets Bounded memory instant (Default y u v) ↔ Combines DefaultOf (Signal (seen_at instant u.0)) (Signal (seen_at instant v.0)) (seen_at instant y.0))
default_row memory instant u v y = let same = merge_is (seen_at instant u.0) (seen_at instant v.0) in (λ h. h ∙ same, λ h. h ∙ sym same)

pub clock_row : (memory : Memory) (instant : Instant) (x y : SigId)
    → (Meets Bounded memory instant (Event y x) ↔ Changes Clock (Signal (seen_at instant x.0)) (seen_at instant y.0))
clock_row memory instant x y = let same = clock_is (seen_at instant x.0) in (λ h. h ∙ same, λ h. h ∙ sym same)

pub plus_row : (memory : Memory) (instant : Instant) (u v e f y : SigId)
    → (AreMet memory instant (Event e u ∷ Event f v ∷ Default y e f ∷ [])
    ↔ ((seen_at instant e.0 ≡ clock_of (seen_at instant u.0)) × (seen_at instant f.0 ≡ clock_of (seen_at instant v.0))
    × Combines Plus (Signal (seen_at instant u.0)) (Signal (seen_at instant v.0)) (seen_at instant y.0)))
plus_row memory instant u v e f y =
    let u_is = clock_is (seen_at instant u.0) in
    let v_is = clock_is (seen_at instant v.0) in
    let whole = plus_is (seen_at instant u.0) (seen_at instant v.0) in (
      λ h. let first : seen_at instant e.0 ≡ clock_of (seen_at instant u.0) = h.0 ∙ u_is in
          let second : seen_at instant f.0 ≡ clock_of (seen_at instant v.0) = h.1.0 ∙ v_is in
          (first, second, h.1.1.0 ∙ ap (λ s. or_else s (seen_at instant f.0)) first ∙ ap (λ s. or_else (clock_of (seen_at instant u.0)) s) second ∙ whole),
      λ h. (h.0 ∙ sym u_is, (h.1 ∙ sym v_is, (h.2 ∙ sym whole ∙ ap (λ s. or_else s (clock_of (seen_at instant v.0))) (sym h.0) ∙ ap (λ s. or_else (seen_at instant e.0) s) (sym h.1), tt))),
    )

pub meet_row : (memory : Memory) (instant : Instant) (u v e f y : SigId)
    → (AreMet memory instant (Event e u ∷ Event f v ∷ When y e f ∷ [])
    ↔ ((seen_at instant e.0 ≡ clock_of (seen_at instant u.0)) × (seen_at instant f.0 ≡ clock_of (seen_at instant v.0))
    × Combines Meet (Signal (seen_at instant u.0)) (Signal (seen_at instant v.0)) (seen_at instant y.0)))
meet_row memory instant u v e f y =
    let u_is = clock_is (seen_at instant u.0) in
    let v_is = clock_is (seen_at instant v.0) in
    let whole = meet_is (seen_at instant u.0) (seen_at instant v.0) in (
      λ h. let first : seen_at instant e.0 ≡ clock_of (seen_at instant u.0) = h.0 ∙ u_is in
          let second : seen_at instant f.0 ≡ clock_of (seen_at instant v.0) = h.1.0 ∙ v_is in
          (first, second, h.1.1.0 ∙ ap (λ s. where_true (seen_at instant f.0) s) first ∙ ap (λ s. where_true s (clock_of (seen_at instant u.0))) second ∙ whole),
      λ h. (h.0 ∙ sym u_is, (h.1 ∙ sym v_is, (h.2 ∙ sym whole ∙ ap (λ s. where_true (clock_of (seen_at instant v.0)) s) (sym h.0) ∙ ap (λ s. where_true s (seen_at instant e.0)) (sym h.1), tt))),
    )

pub less_row : (memory : Memory) (instant : Instant) (u v e f z w y : SigId)
    → (AreMet memory instant (Event e u ∷ Event f v ∷ Fun z Not (Sig f ∷ []) ∷ Default w z e ∷ WhenConst y (pos 1) w ∷ [])
    ↔ ((seen_at instant e.0 ≡ clock_of (seen_at instant u.0)) × (seen_at instant f.0 ≡ clock_of (seen_at instant v.0))
    × (seen_at instant z.0 ≡ where_present (seen_at instant v.0) (pos 0))
    × (seen_at instant w.0 ≡ merged (seen_at instant z.0) (seen_at instant e.0))
    × Combines Less (Signal (seen_at instant u.0)) (Signal (seen_at instant v.0)) (seen_at instant y.0)))
less_row memory instant u v e f z w y =
    let u_is = clock_is (seen_at instant u.0) in
    let v_is = clock_is (seen_at instant v.0) in
    let w_is = merge_is (seen_at instant z.0) (seen_at instant e.0) in
    let whole = less_is (seen_at instant u.0) (seen_at instant v.0) in (
      λ h. let first : seen_at instant e.0 ≡ clock_of (seen_at instant u.0) = h.0 ∙ u_is in
          let second : seen_at instant f.0 ≡ clock_of (seen_at instant v.0) = h.1.0 ∙ v_is in
          let third : seen_at instant z.0 ≡ where_present (seen_at instant v.0) (pos 0) = not_to instant f (seen_at instant v.0) (seen_at instant z.0) second h.1.1.0 in (
            first,
            second,
            third,
            h.1.1.1.0 ∙ w_is,
            h.1.1.1.1.0 ∙ ap (λ s. where_true s (Some (pos 1))) (h.1.1.1.0 ∙ ap (λ s. or_else s (seen_at instant e.0)) third ∙ ap (λ s. or_else (where_present (seen_at instant v.0) (pos 0)) s) first) ∙ whole,
          ),
      λ h. let fourth : seen_at instant w.0 ≡ or_else (seen_at instant z.0) (seen_at instant e.0) = h.3 ∙ sym w_is in
          let shown : seen_at instant w.0 ≡ or_else (where_present (seen_at instant v.0) (pos 0)) (clock_of (seen_at instant u.0)) =
          fourth ∙ ap (λ s. or_else s (seen_at instant e.0)) h.2 ∙ ap (λ s. or_else (where_present (seen_at instant v.0) (pos 0)) s) h.0 in (
            h.0 ∙ sym u_is,
            (
              h.1 ∙ sym v_is,
              (
                not_from instant f (seen_at instant v.0) (seen_at instant z.0) h.1 h.2,
                (
                  fourth,
                  (h.4 ∙ sym whole ∙ ap (λ s. where_true s (Some (pos 1))) (sym shown), tt),
                ),
              ),
            ),
          ),
    )

pub cell_row : (memory : Memory) (instant : Instant) (x b z e w d y : SigId) (init : ℤ)
    → (AreMet memory instant (Delay z y init ∷ Default y x z ∷ Event e x ∷ WhenConst w (pos 1) b ∷ Default d e w ∷ Sync y d ∷ [])
    ↔ ((seen_at instant z.0 ≡ delayed (memory z.0 y.0 init) (seen_at instant y.0))
    × (seen_at instant e.0 ≡ clock_of (seen_at instant x.0))
    × (seen_at instant w.0 ≡ sampled (Some (pos 1)) (seen_at instant b.0))
    × (seen_at instant d.0 ≡ merged (seen_at instant e.0) (seen_at instant w.0))
    × (seen_at instant y.0 ≡ held (memory z.0 y.0 init) (seen_at instant x.0) (seen_at instant b.0))))
cell_row memory instant x b z e w d y init =
    let previous : ℤ = memory z.0 y.0 init in
    let x_is = clock_is (seen_at instant x.0) in
    let b_is = when_is (seen_at instant b.0) (Some (pos 1)) in
    let d_is = merge_is (seen_at instant e.0) (seen_at instant w.0) in
    let y_is = delay_is previous (seen_at instant y.0) in (
      λ h. let first : seen_at instant e.0 ≡ clock_of (seen_at instant x.0) = h.1.1.0 ∙ x_is in
          let second : seen_at instant w.0 ≡ sampled (Some (pos 1)) (seen_at instant b.0) = h.1.1.1.0 ∙ b_is in
          let both : seen_at instant d.0 ≡ or_else (clock_of (seen_at instant x.0)) (sampled (Some (pos 1)) (seen_at instant b.0)) =
          h.1.1.1.1.0 ∙ ap (λ s. or_else s (seen_at instant w.0)) first ∙ ap (λ s. or_else (clock_of (seen_at instant x.0)) s) second in (
            h.0 ∙ y_is,
            first,
            second,
            h.1.1.1.1.0 ∙ d_is,
            cell_to previous (seen_at instant x.0) (seen_at instant b.0) (seen_at instant y.0) (h.1.0 ∙ ap (λ s. or_else (seen_at instant x.0) s) h.0) (h.1.1.1.1.1.0 ∙ ap is_some both),
          ),
      λ h. let both : seen_at instant d.0 ≡ or_else (clock_of (seen_at instant x.0)) (sampled (Some (pos 1)) (seen_at instant b.0)) =
          h.3 ∙ sym d_is ∙ ap (λ s. or_else s (seen_at instant w.0)) h.1 ∙ ap (λ s. or_else (clock_of (seen_at instant x.0)) s) h.2 in
          let kept : seen_at instant z.0 ≡ where_present (seen_at instant y.0) previous = h.0 ∙ sym y_is in
          let value : seen_at instant y.0 ≡ or_else (seen_at instant x.0) (where_present (seen_at instant y.0) previous) =
          h.4 ∙ cell_value previous (seen_at instant x.0) (seen_at instant b.0) ∙ ap (λ s. or_else (seen_at instant x.0) (where_present s previous)) (sym h.4) in (
            kept,
            (
              value ∙ ap (λ s. or_else (seen_at instant x.0) s) (sym kept),
              (
                h.1 ∙ sym x_is,
                (
                  h.2 ∙ sym b_is,
                  (
                    h.3 ∙ sym d_is,
                    (ap is_some h.4 ∙ cell_present previous (seen_at instant x.0) (seen_at instant b.0) ∙ ap is_some (sym both), tt),
                  ),
                ),
              ),
            ),
          ),
    )
