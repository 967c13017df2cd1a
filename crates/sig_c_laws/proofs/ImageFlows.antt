-- Flows that fit a kernel fit its image.
use Rattle.std.proofs.Common.{◌≡◌, ◌<◌, ◌≤◌, ℕ, zero, suc, ℤ, List, [], ◌∷◌, length, map, take, Some, None, refl, sym, ap, subst, ◌∙◌, arith, slice_get, slice_index_or}
use Rattle.std.specs.List.{AllPass}
use Rattle.std.proofs.Common.{get_or}
use Rattle.std.proofs.lemmas.List.{length-map, length-take-le}
use Rattle.sig_kernel.specs.Validity.{AreFlowsFor, inputs_of, value_is}
use Rattle.sig_kernel.specs.declared.kernel.Kernel.{Kernel}
use Rattle.sig_base.specs.declared.signal.Signal.{Signal}
use Rattle.sig_file.specs.Images.{ImageView, IsImage}
use Rattle.sig_file.specs.PlanImages.{image_of, image_signal}
use Rattle.sig_file.specs.declared.images.ImageSignal.{ImageSignal}
use Rattle.sig_exec.specs.Running.{AreFlowsOf}
use Rattle.sig_image_command.specs.Builds.{IsKernelImage}

-- the signal of a kernel at a place, of which the image's is made
pub made_of : (signals : List Signal) (k : ℕ) (input : ImageSignal) → slice_get (map image_signal signals) k ≡ Some input → (signal : Signal) × (slice_get signals k ≡ Some signal) × (input ≡ image_signal signal)
made_of [] k input is = absurd (let f : None ≡ Some input = is in cc f)
made_of (signal ∷ signals) zero input is = (signal, refl, let f : Some (image_signal signal) ≡ Some input = is in cc f)
made_of (signal ∷ signals) (suc k) input is = made_of signals k input is

taken_at : {A : Type 0} (n k : ℕ) (xs : List A) (x d : A) → k < n → slice_get xs k ≡ Some x → get_or (take n xs) k d ≡ x
taken_at zero k xs x d less is = absurd (omega (arith, less))
taken_at (suc n) k [] x d less is = absurd cc
taken_at (suc n) zero (y ∷ ys) x d less is = cc
taken_at (suc n) (suc k) (y ∷ ys) x d less is = taken_at n k ys x d (omega (arith, less)) is

pub flows_of_image : (kernel : Kernel) (image : ImageView) → IsKernelImage kernel image → IsImage image → (flows : List (List ℤ)) → AreFlowsFor kernel flows → AreFlowsOf image flows
flows_of_image kernel image of right flows fit = record {
  count = fit.count ∙ length-take-le kernel.inputs kernel.signals there ∙ inputs_same;
  kinds = kinds;
}
  where
    image_is : image ≡ image_of of.plan
    image_is = of.is

    signals_same : image.signals ≡ map image_signal kernel.signals
    signals_same = ap (λ (i : ImageView). i.signals) image_is ∙ ap (λ (k : Kernel). map image_signal k.signals) of.of.same

    inputs_same : kernel.inputs ≡ image.inputs
    inputs_same = sym (ap (λ (i : ImageView). i.inputs) image_is ∙ ap (λ (k : Kernel). k.inputs) of.of.same)

    there : kernel.inputs ≤ length kernel.signals
    there = let i = right.interface in let s = ap (λ (l : List ImageSignal). length l) signals_same ∙ length-map kernel.signals image_signal in omega (arith, i, s, inputs_same)

    kinds : (k : ℕ) (input : ImageSignal) → k < image.inputs → slice_get image.signals k ≡ Some input → AllPass (value_is input.kind) (slice_index_or flows k [])
    kinds k input less is =
        let (signal, at, made) = made_of kernel.signals k input (sym (ap (λ (l : List ImageSignal). slice_get l k) signals_same) ∙ is) in
        let inside : k < kernel.inputs = omega (arith, less, inputs_same) in
        let taken : get_or (take kernel.inputs kernel.signals) k signal ≡ signal = taken_at kernel.inputs k kernel.signals signal signal inside at in
        let below : k < length (inputs_of kernel) = (let l = length-take-le kernel.inputs kernel.signals there in omega (arith, inside, l)) in
        subst (λ (i : ImageSignal). AllPass (value_is i.kind) (slice_index_or flows k [])) (sym made)
        (subst (λ (s : Signal). AllPass (value_is s.kind) (slice_index_or flows k [])) taken (fit.kinds k signal below))
