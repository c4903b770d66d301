-- Laws of a return: the search for a token that names the frame, and what is in use after it.
pub mod FrameCallers
pub mod ReturnValue
pub mod ReturnCallees
