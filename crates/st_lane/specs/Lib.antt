pub mod Cut
pub mod Filling
pub mod Lane
pub mod Sealing
pub mod Laws
