mod Same
mod Run
mod Candidate
mod Equal
