use Rattle.std.proofs.Common.{◌≡◌, ◌∙◌, ℕ, inl, inr, arith, ap, subst, sym, length, List, [], ℤ}
use Rattle.std.proofs.lemmas.Bool.{cases_lt}
use Rattle.std.specs.List.{AllPass}
use Rattle.std.specs.Prelude.{slice_get, slice_index_or}
use Rattle.sig_kernel.specs.Validity.{value_is}
use Rattle.sig_file.specs.declared.images.ImageSignal.{ImageSignal}
use Rattle.sig_rows_files.proofs.fits.fits.Goals as goal

pub loop-k-preserved : goal.loop-k-preserved
loop-k-preserved c = λ n input less is. elim (cases_lt n c.loop-k.k) [
  | inl before ↦ c.loop-k.invariant n input before is
  | inr late ↦
      let here : n ≡ c.loop-k.k = omega (arith, less, late) in
      subst (λ (k : ℕ). AllPass (value_is input.kind) (slice_index_or c.as_slice-flows.result.now k [])) (sym here)
      (c.fits_at.ensures c.if-not-fits_at.false input (ap (slice_get c.signals_of-signals.result.now) (sym here) ∙ is))
]

pub returns : goal.returns
returns c = λ so.
    let count : length c.as_slice-flows.result.now ≡ c.args.image.now.inputs = c.if-flows-inputs_of.false ∙ c.inputs_of.ensures in
    record {
      count = ap (λ (l : List (List ℤ)). length l) (sym c.as_slice-flows.ensures) ∙ count;
      kinds = λ k input below is.
          let test = c.loop-k-test.false in
          subst (λ (l : List (List ℤ)). AllPass (value_is input.kind) (slice_index_or l k [])) c.as_slice-flows.ensures
          (c.loop-k.invariant k input (omega (arith, below, count, test)) (ap (λ (l : List ImageSignal). slice_get l k) c.signals_of-signals.ensures ∙ is));
    }
