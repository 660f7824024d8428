mod Cases
mod Stepping
