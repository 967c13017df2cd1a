pub mod Rule
pub mod Seats
pub use Rattle.atomic_table.specs.Table
pub use Rattle.sig_base.specs.Places
