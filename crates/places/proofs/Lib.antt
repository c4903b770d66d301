-- Laws of the loops that look for a place.
pub mod PlaceSearch
pub mod PlaceNearest
