-- Laws of a house run: its records, and its turns one behind the other.
pub mod HouseRecords
pub mod HouseTurns
pub mod HouseGoing
pub mod TurnReport
pub mod HouseLent
