pub mod Common
mod AddedSignals
mod Agreement
mod AppliedFunctions
mod Binaries
mod Counts
mod DefinedOnce
mod DeterminedIntermediates
mod TranslatedEquations
mod ExpressionValues
mod FewEquations
mod KindsOfEquations
mod FittingForms
mod FittingOperators
mod AddedBehind
mod Instants
mod Kept
mod Kinded
mod MetOperators
mod NamedSignals
mod NumberedKinds
mod OperatorEquations
mod Parts
mod Places
mod MetTranslations
mod SignalOfNumber
mod RestrictedTraces
mod MetExpressions
mod SignalNames
mod Sizes
mod SignalOperands
mod WhatIsLeft
mod Targets
mod TraceByInstants
mod TranslationCases
mod ValidKernel
mod WellMadeNames
pub use Common.*
pub use AddedBehind.*
pub use Binaries.*
pub use FewEquations.*
pub use MetOperators.*
pub use NamedSignals.*
pub use Parts.*
pub use Places.*
pub use RestrictedTraces.*
pub use SignalNames.*
pub use SignalOfNumber.*
pub use SignalOperands.*
pub use Sizes.*
pub use TraceByInstants.*
pub use ValidKernel.*
pub use WhatIsLeft.*
pub use Rattle.sig_flat.proofs.MetOperators.{cell_row, delay_row}
