-- The parts of a kernel.
use Rattle.sig_flat.proofs.Common.{◌≡◌, ◌≤◌, ◌<◌, ◌+◌, ◌^◌, [], length, take, ap, ◌∙◌, take-append-le, SIGNALS, FlatBody, HasParts, inputs_of, kernel_of}
use Rattle.sig_flat.proofs.AddedBehind.{begins}
use Rattle.sig_flat.proofs.Sizes.{equations_no_less}

pub parts : (flat : FlatBody) → flat.inputs + flat.outputs ≤ length flat.signals
    → length (kernel_of flat).signals ≤ SIGNALS → length (kernel_of flat).equations < 2 ^ 32 → HasParts (kernel_of flat)
parts flat interface few short = record {
  interface = interface;
  declared = equations_no_less flat.equations (record { signals = flat.signals; equations = [] });
  signals = few;
  equations = short;
}

pub same_inputs : (flat : FlatBody) → flat.inputs ≤ length flat.signals → inputs_of (kernel_of flat) ≡ take flat.inputs flat.signals
same_inputs flat within =
    let more = begins flat in
    ap (take flat.inputs) more.1 ∙ take-append-le flat.inputs flat.signals more.0 within
