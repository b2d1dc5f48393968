mod Working
pub mod Laws
