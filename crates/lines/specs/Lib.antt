-- The lines as data, a line's words, what a caller's output shows, the line of a reply, and the lines at the end.
pub mod LineTold
pub mod WordBytes
pub mod Shown
pub mod WindowShows
pub mod Report
pub mod LastLines
