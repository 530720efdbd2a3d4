-- What crosses the boundary to a host.
pub mod Boundary
