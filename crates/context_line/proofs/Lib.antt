-- What the proof of the reader leans on.
-- Assumes nothing.
mod Walk
