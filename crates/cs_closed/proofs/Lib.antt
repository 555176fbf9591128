pub mod OnClosed
