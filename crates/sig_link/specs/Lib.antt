pub mod Ends
pub mod Rule
pub use Rattle.crossbeam_queue.specs.Fifo
pub use Rattle.crossbeam_queue.specs.Passes
