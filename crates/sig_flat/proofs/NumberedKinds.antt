-- Kinds of signals by their numbers.
use Rattle.sig_flat.proofs.Common.{◌≡◌, ◌++◌, ◌<◌, ℕ, zero, suc, List, [], ◌∷◌, length, Option, None, Some, refl, ap, ◌∙◌, arith, none-some, slice_get, option_map, unwrap_or, Kind, Signal, kind_numbered, kind_of, signal_id, kind_at as kind_made}
use Rattle.sig_kernel.specs.Table.{kind_at}

-- the kind of a number stays as signals are added
pub kind_stays : (signals more : List Signal) (number : ℕ) (kind : Kind)
    → kind_numbered signals number ≡ Some kind → kind_numbered (signals ++ more) number ≡ Some kind
kind_stays [] more number kind is = absurd (none-some kind is)
kind_stays (s ∷ signals) more zero kind is = is
kind_stays (s ∷ signals) more (suc number) kind is = kind_stays signals more number kind is

-- the kind of a signal that was just added
pub kind_added : (signals more : List Signal) (signal : Signal) → kind_numbered (signals ++ signal ∷ more) (length signals) ≡ Some signal.kind
kind_added [] more signal = refl
kind_added (s ∷ signals) more signal = kind_added signals more signal

pub kind_below : (signals : List Signal) (number : ℕ) (kind : Kind) → kind_numbered signals number ≡ Some kind → number < length signals
kind_below [] number kind is = absurd (none-some kind is)
kind_below (s ∷ signals) zero kind is = omega arith
kind_below (s ∷ signals) (suc number) kind is = let below : number < length signals = kind_below signals number kind is in omega arith

-- the kernel's word for it
kinds_agree : (signal : Option Signal) → kind_of signal ≡ option_map (λ s. s.kind) signal
kinds_agree None = refl
kinds_agree (Some signal) = refl

pub kind_in_kernel : (signals : List Signal) (number : ℕ) (kind : Kind) → kind_numbered signals number ≡ Some kind → kind_at signals (signal_id number) ≡ Some kind
kind_in_kernel signals number kind is = kinds_agree (slice_get signals number) ∙ is

-- and the translation's
pub kind_as_made : (signals : List Signal) (number : ℕ) (kind : Kind) → kind_numbered signals number ≡ Some kind → kind_made signals number ≡ kind
kind_as_made [] number kind is = absurd (none-some kind is)
kind_as_made (s ∷ signals) zero kind is = ap (λ o. unwrap_or o kind) is
kind_as_made (s ∷ signals) (suc number) kind is = kind_as_made signals number kind is
