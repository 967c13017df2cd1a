pub mod Common
pub mod CountLemmas
pub mod Once
pub mod PreorderLemmas
pub mod TextLemmas
pub mod TreeLemmas
pub mod TreeOnce
unfoldable pub use Common.*
pub use Once.*
pub use PreorderLemmas.*
pub use TextLemmas.*
pub use TreeLemmas.*
pub use TreeOnce.*
