pub mod Deed
pub mod Facts
pub mod NodeRows
pub mod PortRows
pub mod SamePacket
