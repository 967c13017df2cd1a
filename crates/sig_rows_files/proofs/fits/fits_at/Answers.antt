use Rattle.std.proofs.Common.{◌≡◌, ◌<◌, ◌∙◌, arith, length, refl, subst, sym, true, List, [], ℤ}
use Rattle.std.proofs.lemmas.List.{get_or_default}
use Rattle.std.proofs.lemmas.List.Sums.{AllPass-from_list_all}
use Rattle.std.proofs.lemmas.Option.{same_Some, slice_get_read}
use Rattle.std.specs.List.{AllPass, list_all}
use Rattle.std.specs.Prelude.{slice_index_or}
use Rattle.sig_kernel.specs.Validity.{value_is}
use Rattle.sig_file.specs.declared.images.ImageSignal.{ImageSignal}
use Rattle.sig_rows_files.proofs.fits.fits_at.Goals as goal

pub returns : goal.returns
returns c = λ so input is.
    let signal = c.index-signals-k.result in
    let flow = c.index-flows-k.result in
    let in_signals : c.args.k < length c.args.signals.now = omega (arith, c.if-k-signals.false) in
    let in_flows : c.args.k < length c.args.flows.now = omega (arith, c.if-k-flows.false) in
    let there = slice_get_read c.args.signals.now (length c.args.signals.now) c.args.k signal refl in_signals c.index-signals-k.is in
    let same : signal ≡ input = same_Some signal input (sym there ∙ is) in
    let values : flow ≡ slice_index_or c.args.flows.now c.args.k [] = c.index-flows-k.is ∙ get_or_default c.args.flows.now c.args.k flow [] in_flows in
    let read : list_all (value_is signal.kind) c.as_slice.result.now ≡ true =
    subst (λ (s : ImageSignal). list_all (value_is s.kind) c.as_slice.result.now ≡ true) (sym c.index-signals-k.is) (sym c.has_values_of.ensures ∙ so) in
    let all : list_all (value_is signal.kind) flow ≡ true = subst (λ (l : List ℤ). list_all (value_is signal.kind) l ≡ true) c.as_slice.ensures read in
    subst (λ (l : List ℤ). AllPass (value_is input.kind) l) values
    (subst (λ (s : ImageSignal). AllPass (value_is s.kind) flow) same (AllPass-from_list_all (value_is signal.kind) flow all))
