pub mod Common
pub mod Distinct
pub mod Given
pub mod Kernels
pub mod OneFlat
pub mod OneKernel
pub mod OneText
pub mod Places
pub mod ProgramTraces
pub mod SmallBodies
pub mod SomeText
unfoldable pub use Common.*
pub use Given.*
pub use Kernels.*
pub use OneFlat.*
pub use OneKernel.*
pub use OneText.*
pub use Places.*
pub use ProgramTraces.*
pub use SmallBodies.*
pub use SomeText.*
pub use Rattle.sig_front.proofs.OneText.{tree_once}
pub use Rattle.sig_front.proofs.SmallBodies.{names, names_differ}
