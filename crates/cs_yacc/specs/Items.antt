pub mod Bytes
pub mod Directives
pub mod Items
pub mod Table
pub mod Views
pub mod PlaceView
pub mod Stops
pub mod Finds
